use Rattle.std.specs.Prelude.{codes}
use Rattle.std.specs.Fmt.{decimal}
use Rattle.std.specs.String.{string_bytes}
use Rattle.std.proofs.Common.{append_assoc, ◌≡◌, ◌++◌}
use Rattle.std.proofs.lemmas.Result.{IfOk-weaker}
use Rattle.book.proofs.TextLemmas.{enough_is}
use Rattle.book.proofs.explanation.enough_part.Goals as goal

pub returns : goal.returns
returns g c =
    IfOk-weaker c.format.result _ _
    (λ s h.
    let k : string_bytes s ≡ (codes "bound " ++ c.yes_no-holds.result.now ++ codes ": " ++ decimal c.generals-generals.result ++ codes " generals, " ++ c.enough_words-enough.result.now ++ decimal c.bound-bound.result) = simp append_assoc h in
    enough_is (g.H.Heard.seen c.args.table.now) c.args.met.now (string_bytes s) c.yes_no-holds.result.now c.enough_words-enough.result.now c.generals-generals.result c.bound-bound.result c.yes_no-holds.ensures c.enough_words-enough.ensures c.generals-generals.ensures.value c.bound-bound.ensures.value k)
    c.format.ensures.ok
