-- Generals' parts without contexts, into which the contexts are written one by one.
use Rattle.std.proofs.Common.{◌≡◌, ◌≢◌, ℕ, zero, suc, ◌+◌, ◌<◌, ◌≤◌, List, [], ◌∷◌, length, cond, refl, sym, ap, subst, ◌∙◌, ⊎_elim, Option, Some, None, true, false, arith}
use Rattle.std.specs.Prelude.{slice_get, slice_set, nat_lt, ◌==◌}
use Rattle.std.proofs.lemmas.Bool.{lt-ltb, ltb-true, ltb-false, cases_Bool}
use Rattle.std.proofs.lemmas.Bool.Decides.{eqb_tells}
use Rattle.std.proofs.lemmas.Option.{slice_get_past}
use Rattle.insn.specs.declared.insn.Insn.{Insn}
use Rattle.semantics.specs.Relay.{oral}
use Rattle.round.specs.Scenario.{Scenario, program_of, shape_of}
use Rattle.round.specs.Letters.{Letter}
use Rattle.round.specs.Contexts.{context_of}
use Rattle.round.specs.Activation.{Activation, started}
use Rattle.world.specs.Part.{Progress, Acting, Silent, Posted}
use Rattle.world.specs.World.{each, begins}
use Rattle.world.specs.Held.{beginnings}
use Rattle.world.specs.Closing.{zeros, blank, blanks}
use Rattle.world.proofs.Listing.{each-get, each-length, set-here, set-other}

ext : {A : Type 0} (xs ys : List A) → ((j : ℕ) → slice_get xs j ≡ slice_get ys j) → xs ≡ ys
ext [] [] h = refl
ext [] (y ∷ ys) h = absurd (let e : None ≡ Some y = h zero in cc)
ext (x ∷ xs) [] h = absurd (let e : Some x ≡ None = h zero in cc)
ext (x ∷ xs) (y ∷ ys) h =
    let e : Some x ≡ Some y = h zero in
    let same : x ≡ y = cc in
    (λ i. same i ∷ ext xs ys (λ j. h (suc j)) i)

-- After the last round nobody has a part.
pub none_left : (s : Scenario) (closed : List (List Letter)) (ps : List Progress) → s.bound < length closed → ps ≡ blanks s (length closed) → ps ≡ beginnings s closed
none_left s closed ps past same =
    let shut : nat_lt (length closed) (suc s.bound) ≡ false = ⊎_elim (λ (h : nat_lt (length closed) (suc s.bound) ≡ true). absurd (let l = ltb-true (length closed) (suc s.bound) h in omega arith)) (λ (h : nat_lt (length closed) (suc s.bound) ≡ false). h) (cases_Bool (nat_lt (length closed) (suc s.bound))) in
    same ∙ (ap (λ b. cond b (each s.generals (λ g. blank s (length closed) g (program_of s g) ∷ [])) []) shut ∙ sym (ap (λ b. cond b (each s.generals (λ g. begins s closed g (program_of s g) ∷ [])) []) shut))

-- States that the first `n` parts have their contexts, and the others do not.
pub record AreBriefed (s : Scenario) (closed : List (List Letter)) (n : ℕ) (ps : List Progress) : Type 0 where
  pub told : (j : ℕ) → j < n → slice_get ps j ≡ slice_get (beginnings s closed) j
  pub left : (j : ℕ) → n ≤ j → slice_get ps j ≡ slice_get (blanks s (length closed)) j

pub brief_none : (s : Scenario) (closed : List (List Letter)) (ps : List Progress) → ps ≡ blanks s (length closed) → AreBriefed s closed 0 ps
brief_none s closed ps same = record { told = λ j lt. absurd (omega arith); left = λ j le. ap (λ (l : List Progress). slice_get l j) same }

module _ (s : Scenario) (closed : List (List Letter)) (le : length closed ≤ s.bound) where
  opens : nat_lt (length closed) (suc s.bound) ≡ true
  opens = lt-ltb (length closed) (suc s.bound) (omega arith)

  blanks_are : blanks s (length closed) ≡ each s.generals (λ g. blank s (length closed) g (program_of s g) ∷ [])
  blanks_are = ap (λ b. cond b (each s.generals (λ g. blank s (length closed) g (program_of s g) ∷ [])) []) opens

  begins_are : beginnings s closed ≡ each s.generals (λ g. begins s closed g (program_of s g) ∷ [])
  begins_are = ap (λ b. cond b (each s.generals (λ g. begins s closed g (program_of s g) ∷ [])) []) opens

  pub blank_at : (n : ℕ) (ps : List Progress) → n < s.generals → AreBriefed s closed n ps → slice_get ps n ≡ Some (blank s (length closed) n (program_of s n))
  blank_at n ps lt h = h.left n (omega arith) ∙ (ap (λ (l : List Progress). slice_get l n) blanks_are ∙ each-get s.generals (λ g. blank s (length closed) g (program_of s g)) n lt)

  pub brief_more : (n : ℕ) (ps ps' : List Progress) → n < s.generals → AreBriefed s closed n ps → ps' ≡ slice_set ps n (begins s closed n (program_of s n)) → AreBriefed s closed (n + 1) ps'
  brief_more n ps ps' lt h set =
      let x = begins s closed n (program_of s n) in
      record {
        told = λ j less. ⊎_elim
            (λ (e : (j == n ≡ true) × (j ≡ n)).
            ap (λ (l : List Progress). slice_get l j) set
            ∙ (ap (slice_get (slice_set ps n x)) e.1
            ∙ (set-here ps n x (blank s (length closed) n (program_of s n)) (blank_at n ps lt h)
            ∙ (sym (ap (λ (l : List Progress). slice_get l n) begins_are ∙ each-get s.generals (λ g. begins s closed g (program_of s g)) n lt)
            ∙ ap (slice_get (beginnings s closed)) (sym e.1)))))
            (λ (e : (j == n ≡ false) × (j ≢ n)). ap (λ (l : List Progress). slice_get l j) set ∙ (set-other ps n j x e.1 ∙ h.told j (let ne = e.1 in omega arith)))
            (eqb_tells j n);
        left = λ j more. ap (λ (l : List Progress). slice_get l j) set ∙ (set-other ps n j x (λ e. let f = e in omega arith) ∙ h.left j (omega arith));
      }

  pub brief_all : (n : ℕ) (ps : List Progress) → n ≡ s.generals → AreBriefed s closed n ps → ps ≡ beginnings s closed
  brief_all n ps all h = ext ps (beginnings s closed) (λ j. ⊎_elim
      (λ (e : nat_lt j n ≡ true). h.told j (ltb-true j n e))
      (λ (e : nat_lt j n ≡ false).
      let past : n ≤ j = ltb-false j n e in
      let none : slice_get (each s.generals (λ g. blank s (length closed) g (program_of s g) ∷ [])) j ≡ None =
      slice_get_past (each s.generals (λ g. blank s (length closed) g (program_of s g) ∷ [])) j (let l = each-length s.generals (λ g. blank s (length closed) g (program_of s g)) in omega arith) in
      let none' : slice_get (each s.generals (λ g. begins s closed g (program_of s g) ∷ [])) j ≡ None =
      slice_get_past (each s.generals (λ g. begins s closed g (program_of s g) ∷ [])) j (let l = each-length s.generals (λ g. begins s closed g (program_of s g)) in omega arith) in
      h.left j past ∙ (ap (λ (l : List Progress). slice_get l j) blanks_are ∙ (none ∙ sym (ap (λ (l : List Progress). slice_get l j) begins_are ∙ none'))))
      (cases_Bool (nat_lt j n)))

-- A part with its general's context is the one with which the round begins.
pub blank_started : (s : Scenario) (n g : ℕ) (o : Option (List Insn)) (a : Activation) → blank s n g o ≡ Acting a → a ≡ started a.patience a.program a.context a.relay
blank_started s n g None a e = cc
blank_started s n g (Some program) a e =
    let is : started s.patience program zeros (oral (shape_of s g (suc n))) ≡ a = cc in
    subst (λ (x : Activation). x ≡ started x.patience x.program x.context x.relay) is refl

pub told_begins : (s : Scenario) (closed : List (List Letter)) (g : ℕ) (o : Option (List Insn)) (a b : Activation) → blank s (length closed) g o ≡ Acting a → b ≡ started a.patience a.program (context_of s closed g) a.relay → Acting b ≡ begins s closed g o
told_begins s closed g None a b e is = cc
told_begins s closed g (Some program) a b e is =
    let same : a ≡ started s.patience program zeros (oral (shape_of s g (suc (length closed)))) = cc in
    ap Acting (is ∙ ap (λ (x : Activation). started x.patience x.program (context_of s closed g) x.relay) same)

pub silent_begins : (s : Scenario) (closed : List (List Letter)) (g : ℕ) (o : Option (List Insn)) → blank s (length closed) g o ≡ Silent → Silent ≡ begins s closed g o
silent_begins s closed g None e = refl
silent_begins s closed g (Some program) e = cc

pub never_posted : (s : Scenario) (n g : ℕ) (o : Option (List Insn)) → blank s n g o ≡ Posted → ⊥
never_posted s n g None e = cc
never_posted s n g (Some program) e = cc
