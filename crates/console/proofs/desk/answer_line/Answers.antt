use Rattle.console.proofs.Desks.{page_suffices}
use Rattle.console.proofs.desk.answer_line.Goals as goal

pub returns : goal.returns
returns c = record {
  answer = c.hear-answer.result.1;
  heard = c.hear-answer.ensures;
  printed = c.print-long.ensures;
  room = page_suffices _ _ _ _ _ _ _ _ c.hear-answer.ensures _ _ _ c.print-long.ensures;
}
