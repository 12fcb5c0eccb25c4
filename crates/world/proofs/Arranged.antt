-- Accounted rounds, joined into one list, are accounted letters.
use Rattle.std.proofs.Common.{◌≡◌, ◌≢◌, ℕ, zero, suc, ◌+◌, ◌*◌, ◌≤◌, List, [], ◌∷◌, ◌++◌, length, take, drop, true, false, refl, sym, ap, subst, ◌∙◌, ⊎_elim, Option, None, Some, arith, length-append}
use Rattle.std.specs.Prelude.{◌==◌, ◌&&◌, Bool, slice_get, flat_map, sum_by, option_to_list}
use Rattle.std.proofs.Math.Nat.{suc-mul}
use Rattle.std.proofs.lemmas.Bool.{eq-eqb, ne_eqb}
use Rattle.std.proofs.lemmas.Bool.Decides.{eqb_tells}
use Rattle.std.proofs.lemmas.List.{take_all}
use Rattle.insn.specs.declared.insn.Insn.{Insn}
use Rattle.board.specs.Board.{Access}
use Rattle.round.specs.Scenario.{Scenario, program_of}
use Rattle.round.specs.Letters.{Letter}
use Rattle.world.specs.Kind.{Kind, each}
use Rattle.world.specs.KindAccounted.{IsLetterOf, AreAccounted, letter_by, letters_by, rounds_of, IsAccounted}
use Rattle.world.proofs.Accounting.{accounted_count}
use Rattle.round.proofs.Lists.{some_at}

abbrev pub is_by : ℕ → ℕ → Letter → Bool
is_by g round l = (l.general == g) && (l.round == round)

pub by_true : (g round : ℕ) (l : Letter) → l.general ≡ g → l.round ≡ round → is_by g round l ≡ true
by_true g round l a b = rw (eq-eqb l.general g a, eq-eqb l.round round b) refl

pub by_false : (g round : ℕ) (l : Letter) → (l.general ≡ g → l.round ≡ round → ⊥) → is_by g round l ≡ false
by_false g round l not = ⊎_elim
    (λ (x : (l.general == g ≡ true) × (l.general ≡ g)). rw x.0 (ne_eqb l.round round (λ e. not x.1 e)))
    (λ (x : (l.general == g ≡ false) × (l.general ≢ g)). rw x.0 refl)
    (eqb_tells l.general g)

-- The letters of one round, from a general on.
abbrev IsRowFrom : ℕ → ℕ → List Letter → Type 0
IsRowFrom k t [] = Unit {0}
IsRowFrom k t (l ∷ row) = ((l.general ≡ k) × (l.round ≡ t)) × IsRowFrom (suc k) t row

abbrev IsGridFrom : ℕ → ℕ → List (List Letter) → Type 0
IsGridFrom n t [] = Unit {0}
IsGridFrom n t (row ∷ rounds) = ((length row ≡ n) × IsRowFrom 0 t row) × IsGridFrom n (suc t) rounds

row_get : (k t i : ℕ) (row rest : List Letter) (l : Letter) → IsRowFrom k t row → slice_get row i ≡ Some l → letter_by (k + i) t (row ++ rest) ≡ Some l
row_get k t i [] rest l h at = cc
row_get k t zero (x ∷ row) rest l h at = rw (by_true (k + 0) t x (let a = h.0.0 in omega arith) h.0.1) at
row_get k t (suc i) (x ∷ row) rest l h at =
    let again : letter_by (k + suc i) t (row ++ rest) ≡ Some l = (let A : ℕ → Type 0 = λ n. letter_by n t (row ++ rest) ≡ Some l in let e : suc k + i ≡ k + suc i = omega arith in subst A e (row_get (suc k) t i row rest l h.1 at)) in
    rw (by_false (k + suc i) t x (λ e f. let a = h.0.0 in let b = e in omega arith)) again

row_skip : (k t g u : ℕ) (row rest : List Letter) → IsRowFrom k t row → u ≢ t → letter_by g u (row ++ rest) ≡ letter_by g u rest
row_skip k t g u [] rest h ne = refl
row_skip k t g u (x ∷ row) rest h ne = rw (by_false g u x (λ e f. ne (sym f ∙ h.0.1))) (row_skip (suc k) t g u row rest h.1 ne)

abbrev all : List (List Letter) → List Letter
all rounds = flat_map (λ (round : List Letter). round) rounds

grid_get : (n t i g : ℕ) (rounds : List (List Letter)) (row : List Letter) (l : Letter) → IsGridFrom n t rounds → slice_get rounds i ≡ Some row → slice_get row g ≡ Some l → letter_by g (t + i) (all rounds) ≡ Some l
grid_get n t i g [] row l h at here = cc
grid_get n t zero g (first ∷ rounds) row l h at here =
    let same : first ≡ row = cc in
    let here' : slice_get first g ≡ Some l = ap (λ r. slice_get r g) same ∙ here in
    let A : ℕ → ℕ → Type 0 = λ m u. letter_by m u (first ++ all rounds) ≡ Some l in
    subst (λ (m : ℕ). A m (t + 0)) (let e : 0 + g ≡ g = omega arith in e) (subst (λ (u : ℕ). A (0 + g) u) (let e : t ≡ t + 0 = omega arith in e) (row_get 0 t g first (all rounds) l h.0.1 here'))
grid_get n t (suc i) g (first ∷ rounds) row l h at here =
    let A : ℕ → Type 0 = λ u. letter_by g u (all rounds) ≡ Some l in
    row_skip 0 t g (t + suc i) first (all rounds) h.0.1 (λ e. let f = e in omega arith) ∙ subst A (let e : suc t + i ≡ t + suc i = omega arith in e) (grid_get n (suc t) i g rounds row l h.1 at here)

pub snoc : {A : Type 0} (xs : List A) (n : ℕ) (x : A) → slice_get xs n ≡ Some x → take (suc n) xs ≡ take n xs ++ x ∷ []
snoc [] n x e = cc
snoc (y ∷ xs) zero x e = (let f : y ≡ x = cc in ap (λ z. z ∷ []) f)
snoc (y ∷ xs) (suc n) x e = ap (λ ys. y ∷ ys) (snoc xs n x e)

each_front : {A : Type 0} (xs : List A) (f : ℕ → List A) → ((g : ℕ) (x : A) → slice_get xs g ≡ Some x → f g ≡ x ∷ []) → (n : ℕ) → n ≤ length xs → each n f ≡ take n xs
each_front xs f h zero le = refl
each_front xs f h (suc n) le =
    let l = some_at xs n (omega arith) in
    (λ i. each_front xs f h n (omega arith) i ++ h n l.0 l.1 i) ∙ sym (snoc xs n l.0 l.1)

grid_long : (n t i : ℕ) (rounds : List (List Letter)) (row : List Letter) → IsGridFrom n t rounds → slice_get rounds i ≡ Some row → length row ≡ n
grid_long n t i [] row h at = cc
grid_long n t zero (first ∷ rounds) row h at = (let same : first ≡ row = cc in ap length (sym same) ∙ h.0.0)
grid_long n t (suc i) (first ∷ rounds) row h at = grid_long n (suc t) i rounds row h.1 at

grid_count : (n t : ℕ) (rounds : List (List Letter)) → IsGridFrom n t rounds → length (all rounds) ≡ length rounds * n
grid_count n t [] h = (let e : 0 ≡ 0 * n = omega arith in e)
grid_count n t (row ∷ rounds) h = (let e = grid_count n (suc t) rounds h.1 in let l = h.0.0 in omega (arith, length-append row (all rounds), suc-mul (length rounds) n))

row_is : (n r : ℕ) (rounds : List (List Letter)) (row : List Letter) → IsGridFrom n 1 rounds → slice_get rounds r ≡ Some row → letters_by n (suc r) (all rounds) ≡ row
row_is n r rounds row h at =
    let long = grid_long n 1 r rounds row h at in
    let A : ℕ → Type 0 = λ u. (g : ℕ) (l : Letter) → slice_get row g ≡ Some l → option_to_list (letter_by g u (all rounds)) ≡ l ∷ [] in
    let one : A (suc r) = subst A (let e : 1 + r ≡ suc r = omega arith in e) (λ g l here. ap option_to_list (grid_get n 1 r g rounds row l h at here)) in
    each_front row (λ g. option_to_list (letter_by g (suc r) (all rounds))) one n (omega arith) ∙ take_all n row (omega arith)

-- The letters of an accounted round are such letters.
row_from : (t k : ℕ) (row : List Letter) → ((i : ℕ) (l : Letter) → slice_get row i ≡ Some l → (l.general ≡ k + i) × (l.round ≡ t)) → IsRowFrom k t row
row_from t k [] h = tt
row_from t k (x ∷ row) h = (
  (let e = (h 0 x refl).0 in omega arith, (h 0 x refl).1),
  row_from t (suc k) row (λ i l at. (let e = (h (suc i) l at).0 in omega arith, (h (suc i) l at).1)),
)

module _ (K : Kind) where
  whose : (s : Scenario) (before : List (List Letter)) (g : ℕ) (o : Option (List Insn)) (l : Letter) → IsLetterOf K s before g o l → (l.general ≡ g) × (l.round ≡ suc (length before))
  whose s before g None l e = (ap (λ (x : Letter). x.general) e, ap (λ (x : Letter). x.round) e)
  whose s before g (Some p) l h = (ap (λ (x : Letter). x.general) h.2, ap (λ (x : Letter). x.round) h.2)

  grid_from : (s : Scenario) (rounds before : List (List Letter)) (ledger : List Access) → AreAccounted K s before ledger rounds → IsGridFrom s.generals (suc (length before)) rounds
  grid_from s [] before ledger h = tt
  grid_from s (row ∷ rounds) before ledger h = (
    (h.0.count, row_from (suc (length before)) 0 row (λ i l at. let w = whose s before i (program_of s i) l (h.0.each i l at).0 in (let e = w.0 in omega arith, w.1))),
    (let A : ℕ → Type 0 = λ t. IsGridFrom s.generals (suc t) rounds in
        subst A (let l = length-append before (row ∷ []) in let e : length (before ++ row ∷ []) ≡ suc (length before) = omega arith in e)
        (grid_from s rounds (before ++ row ∷ []) (drop (sum_by (λ l. length l.transcript) row) ledger) h.1)),
  )

  pub all_accounted : (s : Scenario) (ledger : List Access) (rounds : List (List Letter)) → AreAccounted K s [] ledger rounds → IsAccounted K s ledger (all rounds)
  all_accounted s ledger rounds h =
      let grid : IsGridFrom s.generals 1 rounds = grid_from s rounds [] ledger h in
      let count : length rounds ≡ suc s.bound = (let c = accounted_count K s rounds [] ledger h in omega arith) in
      let same : rounds_of s (all rounds) ≡ rounds =
      each_front rounds (λ r. letters_by s.generals (suc r) (all rounds) ∷ []) (λ r row at. ap (λ x. x ∷ []) (row_is s.generals r rounds row grid at)) (suc s.bound) (omega arith) ∙ take_all (suc s.bound) rounds (omega arith) in
      (grid_count s.generals 1 rounds grid ∙ ap (λ n. n * s.generals) count, (let A : List (List Letter) → Type 0 = λ r. AreAccounted K s [] ledger r in subst A (sym same) h))
