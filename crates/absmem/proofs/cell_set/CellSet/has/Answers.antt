use Rattle.std.proofs.Common.{◌≡◌, ◌+◌, ◌*◌, ◌/◌, ◌<◌, ℕ, List, Bool, refl, subst, sym, arith}
use Rattle.std.specs.Prelude.{min}
use Rattle.std.specs.Int.{bit_at}
use Rattle.absmem.specs.Members.{word_at}
use Rattle.absmem.proofs.Members.{HasCells, has_none, has_more, has_here}
use Rattle.absmem.proofs.cell_set.CellSet.has.Goals as goal

pub returns-then-is_in_word : goal.returns-then-is_in_word
returns-then-is_in_word c =
    let words = c.self.inside.words in
    let fits = c.if-is_in_word.ensures.0 refl in
    let lt : c.args.place / 64 < 8 = omega (arith, fits.0) in
    let whole : min c.args.end (64 * (c.args.place / 64 + 1)) ≡ c.args.end = omega (arith, fits.2) in (
      λ yes. subst (λ (flags : List Bool). HasCells flags c.args.place c.args.end) c.self.view_is
          (λ k le less. has_more words (c.args.place / 64) c.args.place c.args.end lt
          (subst (λ (mask : ℕ). (i : ℕ) → i < 64 → bit_at mask i ≡ 1 → bit_at (word_at words (c.args.place / 64)) i ≡ 1) c.in_word.ensures (c.has.ensures.0 yes))
          (has_none words c.args.place c.args.end) k le (omega (arith, whole))),
      λ all. c.has.ensures.1 (subst (λ (mask : ℕ). (i : ℕ) → i < 64 → bit_at mask i ≡ 1 → bit_at (word_at words (c.args.place / 64)) i ≡ 1) (sym c.in_word.ensures)
          (has_here words (c.args.place / 64) c.args.place c.args.end lt (subst (λ (flags : List Bool). HasCells flags c.args.place c.args.end) (sym c.self.view_is) all))),
    )
