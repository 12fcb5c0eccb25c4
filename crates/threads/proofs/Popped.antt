-- The last element is removed from a list: what holds for all elements holds for it and for the remaining ones. Also,
-- the handles of started threads are kept.
use Rattle.std.proofs.Common.{◌≡◌, ℕ, zero, suc, ◌<◌, ◌+◌, List, [], ◌∷◌, ◌++◌, length, take, drop, get_or, false, refl, ap, sym, subst, ◌∙◌, length-append, arith}
use Rattle.std.specs.List.{refill}
use Rattle.std.specs.Prelude.{All, Option, None, Some, is_some, IsSome, MatchResult, Result, Ok, Err}
use Rattle.std.proofs.lemmas.List.Elements.{All-append, All-cons, All-nil}
use Rattle.std.proofs.Math.ListN.{get_or-append}
use Rattle.std.proofs.Math.Seq.{get_or-append_seam}
use Rattle.threads.specs.declared.answers.Unstarted.{Unstarted}

pub last_all : {X : Type 0} (P : X → Type 0) (old new : List X) (x : X) → All P old → old ≡ new ++ x ∷ [] → P x
last_all {X} P old new x all is =
    let each : All P (new ++ x ∷ []) = subst (λ (l : List X). All P l) is all in
    subst P (get_or-append_seam new x [] x) (each (length new) x (omega (arith, length-append new (x ∷ []))))

pub rest_all : {X : Type 0} (P : X → Type 0) (old new : List X) (x : X) → All P old → old ≡ new ++ x ∷ [] → All P new
rest_all {X} P old new x all is k d lt =
    let each : All P (new ++ x ∷ []) = subst (λ (l : List X). All P l) is all in
    subst P (get_or-append new (x ∷ []) d k lt) (each k d (omega (arith, lt, length-append new (x ∷ []))))

-- The same, where the element of each number is given by a function.
pub last_known : {X : Type 0} (f : ℕ → X) (old new : List X) (x : X) → ((g : ℕ) (d : X) → g < length old → get_or old g d ≡ f g) → old ≡ new ++ x ∷ [] → x ≡ f (length new)
last_known {X} f old new x known is =
    let each : (g : ℕ) (d : X) → g < length (new ++ x ∷ []) → get_or (new ++ x ∷ []) g d ≡ f g = subst (λ (l : List X). (g : ℕ) (d : X) → g < length l → get_or l g d ≡ f g) is known in
    sym (get_or-append_seam new x [] x) ∙ each (length new) x (omega (arith, length-append new (x ∷ [])))

pub rest_known : {X : Type 0} (f : ℕ → X) (old new : List X) (x : X) → ((g : ℕ) (d : X) → g < length old → get_or old g d ≡ f g) → old ≡ new ++ x ∷ []
    → (g : ℕ) (d : X) → g < length new → get_or new g d ≡ f g
rest_known {X} f old new x known is g d lt =
    let each : (k : ℕ) (e : X) → k < length (new ++ x ∷ []) → get_or (new ++ x ∷ []) k e ≡ f k = subst (λ (l : List X). (k : ℕ) (e : X) → k < length l → get_or l k e ≡ f k) is known in
    sym (get_or-append new (x ∷ []) d g lt) ∙ each g d (omega (arith, lt, length-append new (x ∷ [])))

-- One more handle is kept, unless the thread was not started.
pub kept_more : {H E : Type 0} (started : Result H E) (unstarted : Option Unstarted) (old new : List H)
    → MatchResult started (λ h. (unstarted ≡ None) × (new ≡ old ++ h ∷ [])) (λ _. IsSome unstarted × (new ≡ old))
    → is_some unstarted ≡ false → length new ≡ length old + 1
kept_more (Ok h) unstarted old new is none = (let long = ap length is.1 in omega (arith, length-append old (h ∷ [])))
kept_more (Err e) None old new is none =
    let some = is.0 in
    absurd cc
kept_more (Err e) (Some r) old new is none = absurd cc

-- One more element is appended for which the property holds.
pub more_all : {X : Type 0} (P : X → Type 0) (old new : List X) (x : X) → All P old → P x → new ≡ old ++ x ∷ [] → All P new
more_all {X} P old new x all it is = subst (λ (l : List X). All P l) (sym is) (All-append P old (x ∷ []) all (All-cons P x [] it (All-nil P)))

gone : {X : Type 0} (xs : List X) (n : ℕ) → n ≡ length xs → drop n xs ≡ []
gone [] zero e = refl
gone [] (suc n) e = absurd (omega arith)
gone (x ∷ xs) zero e = absurd (omega arith)
gone (x ∷ xs) (suc n) e = gone xs n (omega arith)

all_taken : {X : Type 0} (ws : List X) (n : ℕ) → n ≡ length ws → take n (ws ++ []) ≡ ws
all_taken [] zero e = refl
all_taken [] (suc n) e = absurd (omega arith)
all_taken (x ∷ ws) zero e = absurd (omega arith)
all_taken (x ∷ ws) (suc n) e = ap (λ l. x ∷ l) (all_taken ws n (omega arith))

-- A list into which as many elements are written as it has contains just these.
pub refilled : {X : Type 0} (xs ws : List X) → length ws ≡ length xs → refill (length xs) xs ws ≡ ws
refilled xs ws long = (λ i. take (length xs) (ws ++ gone xs (length ws) long i)) ∙ all_taken ws (length xs) (sym long)
