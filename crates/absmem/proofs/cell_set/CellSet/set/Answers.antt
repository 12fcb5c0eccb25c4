use Rattle.std.proofs.Common.{◌≡◌, ◌+◌, ◌*◌, ◌/◌, ◌<◌, ℕ, List, Bool, slice_set, subst, refl, arith}
use Rattle.std.specs.Prelude.{min}
use Rattle.absmem.specs.Known.{IsSetTo}
use Rattle.absmem.specs.Members.{word_at, members}
use Rattle.absmem.specs.Laws.{length-members}
use Rattle.absmem.proofs.Members.{IsPut, window_more, window_none}
use Rattle.absmem.proofs.cell_set.CellSet.set.Goals as goal

pub returns-then-is_in_word-clause-size : goal.returns-then-is_in_word-clause-size
returns-then-is_in_word-clause-size c = length-members (slice_set c.self.inside.words (c.args.place / 64) c.put.result)

pub returns-then-is_in_word-clause-window : goal.returns-then-is_in_word-clause-window
returns-then-is_in_word-clause-window c =
    let words = c.self.inside.words in
    let fits = c.if-is_in_word.ensures.0 refl in
    let lt : c.args.place / 64 < 8 = omega (arith, fits.0) in
    let whole : min c.args.end (64 * (c.args.place / 64 + 1)) ≡ c.args.end = omega (arith, fits.2) in
    let put : IsPut c.args.value _ (word_at words (c.args.place / 64)) c.put.result =
    subst (λ (mask : ℕ). IsPut c.args.value mask (word_at words (c.args.place / 64)) c.put.result) c.in_word-mask.ensures c.put.ensures in
    let set : IsSetTo c.args.value (members words) (members (slice_set words (c.args.place / 64) c.put.result)) c.args.place c.args.end =
    subst (λ (n : ℕ). IsSetTo c.args.value (members words) (members (slice_set words (c.args.place / 64) c.put.result)) c.args.place n) whole
    (window_more c.args.value words words (c.args.place / 64) c.args.place c.args.end c.put.result lt c.self.invariant.count put (window_none c.args.value (members words) c.args.place c.args.end)) in
    subst (λ (flags : List Bool). IsSetTo c.args.value flags (members (slice_set words (c.args.place / 64) c.put.result)) c.args.place c.args.end) c.self.view_is set
