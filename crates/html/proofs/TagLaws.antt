-- Proves that a name, attributes and content form an element.
use Rattle.std.proofs.Common.{refl, subst, sym}
use Rattle.html.specs.Grammar.{IsContent, nested}
use Rattle.html.specs.MarkupLaws.{ElementsAreElements}

pub proved_elements_are_elements : ElementsAreElements
proved_elements_are_elements = record {
  element = λ name attributes content tag inside. record { name = name; attributes = attributes; content = content; tag = tag; inside = inside; whole = refl };
  content = λ text is. subst IsContent (sym is.whole) (nested is.name is.attributes is.content is.tag is.inside);
}
