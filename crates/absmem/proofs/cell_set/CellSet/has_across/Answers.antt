use Rattle.std.proofs.Common.{◌≡◌, ◌<◌, ℕ, List, Bool, refl, subst, sym, arith}
use Rattle.std.proofs.lemmas.Bool.{true≢false}
use Rattle.std.specs.Int.{bit_at}
use Rattle.absmem.specs.Members.{word_at}
use Rattle.absmem.proofs.Members.{HasCells, has_none, has_more, has_here}
use Rattle.absmem.proofs.cell_set.CellSet.has_across.Goals as goal

pub loop-number-init : goal.loop-number-init
loop-number-init c = has_none c.self.inside.words c.args.place c.args.end

pub returns-then-not-has : goal.returns-then-not-has
returns-then-not-has c =
    let words = c.self.inside.words in
    let number = c.loop-number.number in
    let lt : c.loop-number.number < 8 = omega arith in (
      λ none. absurd (true≢false (sym none)),
      λ all. c.if-not-has.ensures.1 (subst (λ (mask : ℕ). (i : ℕ) → i < 64 → bit_at mask i ≡ 1 → bit_at (word_at words number) i ≡ 1) (sym c.window.ensures)
          (has_here words number c.args.place c.args.end lt (subst (λ (flags : List Bool). HasCells flags c.args.place c.args.end) (sym c.self.view_is) all))),
    )

pub loop-number-preserved : goal.loop-number-preserved
loop-number-preserved c =
    let words = c.self.inside.words in
    let number = c.loop-number.number in
    let lt : c.loop-number.number < 8 = omega arith in
    has_more words number c.args.place c.args.end lt
    (subst (λ (mask : ℕ). (i : ℕ) → i < 64 → bit_at mask i ≡ 1 → bit_at (word_at words number) i ≡ 1) c.window.ensures (c.if-not-has.ensures.0 refl)) c.loop-number.invariant

pub returns : goal.returns
returns c = (
  λ yes. subst (λ (flags : List Bool). HasCells flags c.args.place c.args.end) c.self.view_is (λ k le lt. c.loop-number.invariant k le (omega arith)),
  λ all. refl,
)
