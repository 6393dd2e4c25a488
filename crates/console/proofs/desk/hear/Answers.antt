use Rattle.std.proofs.Common.{length, Some, subst}
use Rattle.settlement.specs.Lent.{room_of}
use Rattle.book.specs.Serving.{state_of, Carries}
use Rattle.console.specs.Choices.{means_of}
use Rattle.console.proofs.Desks.{goes_on}
use Rattle.console.proofs.desk.hear.Goals as goal

pub returns : goal.returns
returns c =
    let m = c.args.memory.now in
    let stage = c.args.desk.stage in
    let command = c.in-Some.command in
    let new = c.choose-choice.result in
    let did = c.serve-stage in
    let carries = subst (λ call. Carries (means_of new) (room_of (length c.args.sheet.now) m) (state_of stage m) call did.result.1 did.new.sheet (state_of did.result.0 did.new.memory))
    c.into.ensures did.ensures.carries in
    record {
      command = Some command;
      reads = c.in-Some.ensures;
      does = record {
        choice = c.choose-choice.ensures;
        served = carries.served;
        run = λ t run. carries.carried.run t (goes_on stage command c.args.desk.choice new m t c.choose-choice.ensures run);
        lawful = λ t run. carries.carried.lawful t (goes_on stage command c.args.desk.choice new m t c.choose-choice.ensures run);
        memory = did.ensures.left;
        sheet = did.ensures.sheet;
      };
    }
