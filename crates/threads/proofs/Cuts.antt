-- A ledger is cut after the accesses of its first round.
use Rattle.std.proofs.Common.{◌≡◌, ℕ, ◌+◌, ◌<◌, List, [], ◌∷◌, ◌++◌, length, take, drop, get_or, sym, ap, subst, ◌∙◌}
use Rattle.std.specs.Prelude.{min, sum_by}
use Rattle.std.proofs.Math.Numerals.{add-one}
use Rattle.std.proofs.Math.Seq.{drop-cons}
use Rattle.std.proofs.lemmas.List.{take_min, take_more, drop_min}
use Rattle.board.specs.Board.{Access}
use Rattle.round.specs.Scenario.{Scenario}
use Rattle.round.specs.Letters.{Letter}
use Rattle.world.specs.Kind.{Kind}
use Rattle.world.specs.KindAccounted.{IsAccountedRound, AreAccounted}

module _ (K : Kind) (s : Scenario) (rows : List (List Letter)) (at : ℕ) (rest : List Access) (row : List Letter) (lt : at < length rows) (is : row ≡ get_or rows at row) where
  abbrev count : ℕ
  count = sum_by (λ l. length l.transcript) row

  here : drop at rows ≡ row ∷ drop (at + 1) rows
  here = drop-cons rows at row lt ∙ (λ i. sym is i ∷ drop (sym (add-one at) i) rows)

  pub before : take (at + 1) rows ≡ take at rows ++ row ∷ []
  before = take_more rows at row lt ∙ ap (λ r. take at rows ++ r ∷ []) (sym is)

  opened : (m : ℕ) → m ≡ min count (length rest) → AreAccounted K s (take at rows) rest (drop at rows)
      → IsAccountedRound K s (take at rows) (take m rest) row × AreAccounted K s (take (at + 1) rows) (drop m rest) (drop (at + 1) rows)
  opened m e h =
      let t : AreAccounted K s (take at rows) rest (row ∷ drop (at + 1) rows) = (let A : List (List Letter) → Type 0 = λ d. AreAccounted K s (take at rows) rest d in subst A here h) in
      let front : take count rest ≡ take m rest = sym (take_min count rest) ∙ ap (λ n. take n rest) (sym e) in
      let back : drop count rest ≡ drop m rest = sym (drop_min count rest) ∙ ap (λ n. drop n rest) (sym e) in
      let B : List (List Letter) → List Access → Type 0 = λ b p. AreAccounted K s b p (drop (at + 1) rows) in (
        subst (λ (p : List Access). IsAccountedRound K s (take at rows) p row) front t.0,
        subst (λ (b : List (List Letter)). B b (drop m rest)) (sym before) (subst (λ (p : List Access). B (take at rows ++ row ∷ []) p) back t.1),
      )

  closed : (m : ℕ) → m ≡ min count (length rest) → IsAccountedRound K s (take at rows) (take m rest) row → AreAccounted K s (take (at + 1) rows) (drop m rest) (drop (at + 1) rows)
      → AreAccounted K s (take at rows) rest (drop at rows)
  closed m e a b =
      let front : take m rest ≡ take count rest = ap (λ n. take n rest) e ∙ take_min count rest in
      let back : drop m rest ≡ drop count rest = ap (λ n. drop n rest) e ∙ drop_min count rest in
      let B : List (List Letter) → List Access → Type 0 = λ b p. AreAccounted K s b p (drop (at + 1) rows) in
      let t : AreAccounted K s (take at rows) rest (row ∷ drop (at + 1) rows) = (
        subst (λ (p : List Access). IsAccountedRound K s (take at rows) p row) front a,
        subst (λ (p : List Access). B (take at rows ++ row ∷ []) p) back (subst (λ (b : List (List Letter)). B b (drop m rest)) before b),
      ) in
      (let A : List (List Letter) → Type 0 = λ d. AreAccounted K s (take at rows) rest d in subst A (sym here) t)

  -- The same, with the piece, the remaining accesses and the letters as the code computes them.
  pub both_ways : (m : ℕ) (piece later : List Access) (letters : List Letter) → letters ≡ row → m ≡ min (sum_by (λ l. length l.transcript) letters) (length rest) → piece ≡ take m rest → later ≡ drop m rest
      → (AreAccounted K s (take at rows) rest (drop at rows) → IsAccountedRound K s (take at rows) piece letters × AreAccounted K s (take (at + 1) rows) later (drop (at + 1) rows))
      × (IsAccountedRound K s (take at rows) piece letters → AreAccounted K s (take (at + 1) rows) later (drop (at + 1) rows) → AreAccounted K s (take at rows) rest (drop at rows))
  both_ways m piece later letters same e front back =
      let e' : m ≡ min count (length rest) = e ∙ ap (λ ls. min (sum_by (λ l. length l.transcript) ls) (length rest)) same in
      let A : List Access → List Letter → Type 0 = λ p ls. IsAccountedRound K s (take at rows) p ls in
      let B : List Access → Type 0 = λ p. AreAccounted K s (take (at + 1) rows) p (drop (at + 1) rows) in (
        λ h.
            let t = opened m e' h in
            (subst (λ (p : List Access). A p letters) (sym front) (subst (λ (ls : List Letter). A (take m rest) ls) (sym same) t.0), subst B (sym back) t.1),
        λ a b. closed m e' (subst (λ (ls : List Letter). A (take m rest) ls) same (subst (λ (p : List Access). A p letters) front a)) (subst B back b),
      )
