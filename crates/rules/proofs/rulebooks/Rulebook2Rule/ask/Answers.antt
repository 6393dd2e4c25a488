use Rattle.std.proofs.Common.{◌∙◌}
use Rattle.rules.proofs.Books.{book_2}
use Rattle.rules.proofs.rulebooks.Rulebook2Rule.ask.Goals as goal

pub returns : goal.returns
returns c =
    let book = c.args.self.now in
    c.ask.ensures ∙ book_2 c.args.facts.now book.settings.0 book.settings.1 book.grace book.cap
