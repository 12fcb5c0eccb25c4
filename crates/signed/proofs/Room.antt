-- If one of thirteen generals has not signed a chain, it has room for his signature.
use Rattle.std.proofs.Common.{◌≡◌, ℕ, ◌+◌, ◌<◌, ◌≤◌, true, false, List, [], ◌∷◌, ◌++◌, length, sym, ◌∙◌, arith, inl, inr, length-append}
use Rattle.std.specs.Prelude.{◌==◌}
use Rattle.std.proofs.lemmas.Bool.{or_cases, eqb-true}
use Rattle.std.proofs.lemmas.List.FromFn.{length-range_with_len}
use Rattle.label.specs.Labels.{on, generals}
use Rattle.label.specs.Generals.{IsGenerals}
use Rattle.label.proofs.Counting.{on-push, distinct-push, range-on}
use Rattle.outbox.proofs.RowLemmas.{on-below}
use Rattle.signed.proofs.Fewness.{no_more}

pub room_for : (w : List ℕ) (g : ℕ) → IsGenerals w → g < 13 → on w g ≡ false → length w < 13
room_for w g is l off =
    let fewer : length (w ++ g ∷ []) ≤ length (generals 13) = no_more (w ++ g ∷ []) (generals 13) (distinct-push w g is.distinct off) (λ v h. range-on 0 13 v (omega arith) (below v h)) in
    let all : length (generals 13) ≡ 13 = length-range_with_len 0 13 in
    omega (arith, length-append w (g ∷ []))
  where
    below : (v : ℕ) → on (w ++ g ∷ []) v ≡ true → v < 0 + 13
    below v h = elim (or_cases (on w v) (g == v) (sym (on-push w g v) ∙ h)) [
      | inl there ↦ (let k : v < 13 = on-below 13 w v is.below there in omega arith)
      | inr new ↦ (let e : g ≡ v = eqb-true g v new in omega arith)
    ]
