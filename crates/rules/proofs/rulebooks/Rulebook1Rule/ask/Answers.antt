use Rattle.std.proofs.Common.{◌∙◌}
use Rattle.rules.proofs.Books.{book_1}
use Rattle.rules.proofs.rulebooks.Rulebook1Rule.ask.Goals as goal

pub returns : goal.returns
returns c =
    let book = c.args.self.now in
    c.ask.ensures ∙ book_1 c.args.facts.now book.settings.0 book.settings.1
