use Rattle.std.proofs.Common.{sym, ◌∙◌}
use Rattle.console.proofs.GrammarLines.{parsed_is, is_parsed}
use Rattle.console.proofs.reader.parse.Goals as goal

pub returns : goal.returns
returns c d =
    let read = c.read_line.ensures in (
      λ e. parsed_is c.args.line.now d (sym read ∙ e),
      λ t. read ∙ is_parsed c.args.line.now d t,
    )
