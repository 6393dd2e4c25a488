use Rattle.std.proofs.Common.{rules}
use Rattle.rules.proofs.Members.{member}
use Rattle.rules.proofs.facts.Facts.named_by.Goals as goal

pub returns-then-self-service : goal.returns-then-self-service
returns-then-self-service c =
    let is = member c.args.kinds.now c.args.self.now.kind in
    search rules
