-- The search, attempt by attempt and set by set.
use Rattle.std.proofs.Common.{ℕ, ◌^◌, ◌<◌, ◌≤◌, ◌≡◌, Bool, true, false, cond, List, [], ◌∷◌, ◌++◌, map, length, refl, sym, ap, subst, ◌∙◌, arith, inl, inr, Option, None, Some}
use Rattle.std.specs.Prelude.{count_by, filter, nat_lt, IfNone, IfSome, ◌==◌}
use Rattle.std.specs.Int.{bit_at}
use lib.Lanes.{mask_l}
use Rattle.std.proofs.lemmas.Bool.{ltb-true, ltb-false, false≢true}
use Rattle.std.proofs.lemmas.List.FromFn.{get_or-map-range_with_len, length-map-range_with_len}
use Rattle.std.proofs.lemmas.List.Sums.{length-filter}
use Rattle.std.proofs.lemmas.Simd.{bit_mask_l, mask_l-lt}
use Rattle.arrayvec.specs.ArrayVec.{ArrayVec}
use Rattle.label.specs.Labels.{on, generals}
use Rattle.label.proofs.Counting.{range-on_within}
use Rattle.lies.specs.Attempts.{IsIn, plan_for, members, Succeeds, NoneCheaper, NoneCheaperAmong}
use Rattle.lies.specs.Plans.{attacks}
use Rattle.lies.specs.Search.{IsFoundAmong, cheaper_break, success_of}
use Rattle.lies.specs.declared.attempt.Attempt.{Attempt}
use Rattle.lies.specs.declared.attempt.Success.{Success}
use Rattle.lies.specs.declared.choice.Choice.{Choice}
use Rattle.lies.specs.declared.found.Found.{Found}
use Rattle.lies.proofs.Members.{on_in, in_on, in_either}

-- Proves that no plan is missing and there.
clash : (zs : List Choice) → None ≡ Some zs → ⊥
clash zs e = cc

some_same : {A : Type 0} → (x y : A) → Some x ≡ Some y → x ≡ y
some_same x y e = cc

-- Proves the claim before the first attempt.
pub none_tried : (f : List ℕ → ℕ) (n m c : ℕ) (traitors : List ℕ) → NoneCheaper f n m c traitors [] None
none_tried f n m c traitors attempt i = absurd i

-- Proves the claim after an attempt that fails.
pub one_failed : (f : List ℕ → ℕ) (n m c : ℕ) (traitors : List ℕ) (tried : List Attempt) (a : Attempt) (best : Option Success) → NoneCheaper f n m c traitors tried best → plan_for f n m c traitors a ≡ None → NoneCheaper f n m c traitors (tried ++ a ∷ []) best
one_failed f n m c traitors tried a None none e = λ attempt i. elim (in_either attempt tried (a ∷ []) i) [
  | inl before ↦ none attempt before
  | inr last ↦ failed attempt last
]
  where
    failed : (attempt : Attempt) → IsIn attempt (a ∷ []) → plan_for f n m c traitors attempt ≡ None
    failed attempt (inl is) = ap (plan_for f n m c traitors) is ∙ e
    failed attempt (inr i) = absurd i
one_failed f n m c traitors tried a (Some s) none e = λ attempt zs i h. elim (in_either attempt tried (a ∷ []) i) [
  | inl before ↦ none attempt zs before h
  | inr last ↦ absurd (other attempt zs h last)
]
  where
    other : (attempt : Attempt) (zs : List Choice) → plan_for f n m c traitors attempt ≡ Some zs → IsIn attempt (a ∷ []) → ⊥
    other attempt zs h (inl is) = clash zs (sym (ap (plan_for f n m c traitors) is ∙ e) ∙ h)
    other attempt zs h (inr i) = absurd i

-- Proves the claim after an attempt that succeeds, but not by fewer orders.
pub one_dearer : (f : List ℕ → ℕ) (n m c : ℕ) (traitors : List ℕ) (tried : List Attempt) (a : Attempt) (s : Success) (zs : List Choice) → NoneCheaper f n m c traitors tried (Some s) → plan_for f n m c traitors a ≡ Some zs → s.attacks ≤ attacks zs
    → NoneCheaper f n m c traitors (tried ++ a ∷ []) (Some s)
one_dearer f n m c traitors tried a s zs none e l attempt ys i h = elim (in_either attempt tried (a ∷ []) i) [
  | inl before ↦ none attempt ys before h
  | inr last ↦ same last
]
  where
    same : IsIn attempt (a ∷ []) → s.attacks ≤ attacks ys
    same (inl is) = (let own : zs ≡ ys = some_same zs ys (sym e ∙ (sym (ap (plan_for f n m c traitors) is) ∙ h)) in let cost : attacks zs ≡ attacks ys = ap attacks own in omega arith)
    same (inr i) = absurd i

-- Proves the claim after an attempt that is the first to succeed, or succeeds by fewer orders.
pub one_cheaper : (f : List ℕ → ℕ) (n m c : ℕ) (traitors : List ℕ) (tried : List Attempt) (a : Attempt) (best : Option Success) (zs : List Choice) → NoneCheaper f n m c traitors tried best → plan_for f n m c traitors a ≡ Some zs
    → ((s : Success) → best ≡ Some s → attacks zs ≤ s.attacks) → NoneCheaper f n m c traitors (tried ++ a ∷ []) (Some (record { attempt = a; attacks = attacks zs }))
one_cheaper f n m c traitors tried a best zs none e less attempt ys i h = elim (in_either attempt tried (a ∷ []) i) [
  | inl before ↦ earlier best none less before
  | inr last ↦ same last
]
  where
    same : IsIn attempt (a ∷ []) → attacks zs ≤ attacks ys
    same (inl is) = (let own : zs ≡ ys = some_same zs ys (sym e ∙ (sym (ap (plan_for f n m c traitors) is) ∙ h)) in let cost : attacks zs ≡ attacks ys = ap attacks own in omega arith)
    same (inr i) = absurd i

    earlier : (o : Option Success) → NoneCheaper f n m c traitors tried o → ((s : Success) → o ≡ Some s → attacks zs ≤ s.attacks) → IsIn attempt tried → attacks zs ≤ attacks ys
    earlier None other l before = absurd (clash ys (sym (other attempt before) ∙ h))
    earlier (Some s) other l before = (let k = other attempt ys before h in let d = l s refl in omega arith)

-- Proves that a list of attempts has none cheaper than a later best, either.
pub still_none : (f : List ℕ → ℕ) (n m c : ℕ) (traitors : List ℕ) (tried : List Attempt) (best : Option Found) (now : ArrayVec ℕ) (success : Option Success) → NoneCheaper f n m c traitors tried (success_of best)
    → NoneCheaper f n m c traitors tried (success_of (cheaper_break best now success))
still_none f n m c traitors tried None now None none = none
still_none f n m c traitors tried (Some b) now None none = none
still_none f n m c traitors tried None now (Some s) none = λ attempt zs i h. absurd (clash zs (sym (none attempt i) ∙ h))
still_none f n m c traitors tried (Some b) now (Some s) none = pick (nat_lt s.attacks b.success.attacks) refl
  where
    pick : (d : Bool) → nat_lt s.attacks b.success.attacks ≡ d → NoneCheaper f n m c traitors tried (success_of (cond d (Some (record { traitors = now; success = s })) (Some b)))
    pick true e = λ attempt zs i h. (let l = ltb-true s.attacks b.success.attacks e in let k = none attempt zs i h in omega arith)
    pick false e = none

-- Proves that the attempts of the traitors who were just tried have none cheaper than the new best.
pub now_none : (f : List ℕ → ℕ) (n m c : ℕ) (traitors : List ℕ) (tried : List Attempt) (best : Option Found) (now : ArrayVec ℕ) (success : Option Success) → NoneCheaper f n m c traitors tried success
    → NoneCheaper f n m c traitors tried (success_of (cheaper_break best now success))
now_none f n m c traitors tried None now None none = none
now_none f n m c traitors tried (Some b) now None none = λ attempt zs i h. absurd (clash zs (sym (none attempt i) ∙ h))
now_none f n m c traitors tried None now (Some s) none = none
now_none f n m c traitors tried (Some b) now (Some s) none = pick (nat_lt s.attacks b.success.attacks) refl
  where
    pick : (d : Bool) → nat_lt s.attacks b.success.attacks ≡ d → NoneCheaper f n m c traitors tried (success_of (cond d (Some (record { traitors = now; success = s })) (Some b)))
    pick true e = none
    pick false e = λ attempt zs i h. (let l = ltb-false s.attacks b.success.attacks e in let k = none attempt zs i h in omega arith)

-- A number whose bits are the traitors.
pub record SetFor (n : ℕ) (t : ℕ → Bool) : Type 0 where
  pub set : ℕ
  pub below : set < 2 ^ n
  pub is : members n set ≡ filter t (generals n)

filter_same : (p q : ℕ → Bool) (xs : List ℕ) → ((j : ℕ) → on xs j ≡ true → p j ≡ q j) → filter p xs ≡ filter q xs
filter_same p q [] same = refl
filter_same p q (x ∷ xs) same =
    let here : p x ≡ q x = same x (on_in (x ∷ xs) x (inl refl)) in
    let rest : filter p xs ≡ filter q xs = filter_same p q xs (λ j i. same j (on_in (x ∷ xs) j (inr (in_on xs j i)))) in
    λ i. cond (here i) (x ∷ rest i) (rest i)

pub set_for : (n : ℕ) (t : ℕ → Bool) → SetFor n t
set_for n t =
    let long : length (map t (generals n)) ≡ n = length-map-range_with_len t 0 n in
    let few : mask_l (map t (generals n)) < 2 ^ length (map t (generals n)) = mask_l-lt (map t (generals n)) in
    record {
      set = mask_l (map t (generals n));
      below = subst (λ (k : ℕ). mask_l (map t (generals n)) < 2 ^ k) long few;
      is = filter_same (λ g. bit_at (mask_l (map t (generals n))) g == 1) t (generals n) (λ j i.
          let l = range-on_within 0 n j i in
          ap (λ (b : ℕ). b == 1) (bit_mask_l (map t (generals n)) j ∙ ap (λ (b : Bool). cond {A = ℕ} b 1 0) (get_or-map-range_with_len t 0 n j j false (omega arith) (omega arith)))
          ∙ bit (t j));
    }
  where
    bit : (b : Bool) → (cond {A = ℕ} b 1 0 == 1) ≡ b
    bit true = refl
    bit false = refl

-- Proves that all sets together are all traitors.
pub all_sets : (f : List ℕ → ℕ) (n m c count : ℕ) (found : Option Success) → ((set : ℕ) → set < 2 ^ n → length (members n set) ≡ count → NoneCheaperAmong f n m c found (members n set))
    → (t : ℕ → Bool) → count_by t (generals n) ≡ count → NoneCheaperAmong f n m c found (filter t (generals n))
all_sets f n m c count found none t many =
    let s : SetFor n t = set_for n t in
    subst (NoneCheaperAmong f n m c found) s.is (none s.set s.below (ap length s.is ∙ (length-filter t (generals n) ∙ many)))

-- Proves that the new best is a break by `count` traitors.
pub now_found : (f : List ℕ → ℕ) (n m c count set : ℕ) (now : ArrayVec ℕ) (s : Success) → now.items ≡ members n set → length now.items ≡ count → Succeeds f n m c now.items s → IsFoundAmong f n m c count (record { traitors = now; success = s })
now_found f n m c count set now s is long succeeds = record {
  traitor = λ g. bit_at set g == 1;
  listed = is;
  many = sym (length-filter (λ g. bit_at set g == 1) (generals n)) ∙ (sym (ap length is) ∙ long);
  succeeds = succeeds;
}

-- Proves that the new best is a break, if the best so far is one and the success is one.
pub found_more : (P : Found → Type 0) (best : Option Found) (now : ArrayVec ℕ) (success : Option Success) → IfSome best P → IfSome success (λ s. P (record { traitors = now; success = s })) → IfSome (cheaper_break best now success) P
found_more P None now None b s = tt
found_more P (Some f) now None b s = b
found_more P None now (Some r) b s = s
found_more P (Some f) now (Some r) b s = pick (nat_lt r.attacks f.success.attacks)
  where
    pick : (d : Bool) → IfSome (cond d (Some (record { traitors = now; success = r })) (Some f)) P
    pick true = s
    pick false = b

-- Proves that a success of these traitors is a break.
pub found_now : (f : List ℕ → ℕ) (n m c count set : ℕ) (now : ArrayVec ℕ) (o : Option Success) → now.items ≡ members n set → length now.items ≡ count → IfSome o (Succeeds f n m c now.items) → IfSome o (λ s. IsFoundAmong f n m c count (record { traitors = now; success = s }))
found_now f n m c count set now None is long h = tt
found_now f n m c count set now (Some s) is long h = now_found f n m c count set now s is long h

-- Proves the step of the loop over the attempts, at an attempt that is the best so far.
pub one_better : (f : List ℕ → ℕ) (n m c : ℕ) (traitors : List ℕ) (tried : List Attempt) (a : Attempt) (best : Option Success) (zs : List Choice) (cost : ℕ) (test : Bool) → NoneCheaper f n m c traitors tried best → plan_for f n m c traitors a ≡ Some zs
    → IfSome best (λ s. test ≡ nat_lt cost s.attacks) → test ≡ true → cost ≡ attacks zs → NoneCheaper f n m c traitors (tried ++ a ∷ []) (Some (record { attempt = a; attacks = cost }))
one_better f n m c traitors tried a best zs cost test none e less it same =
    subst (λ (k : ℕ). NoneCheaper f n m c traitors (tried ++ a ∷ []) (Some (record { attempt = a; attacks = k }))) (sym same)
    (one_cheaper f n m c traitors tried a best zs none e (λ s is. below best less s is))
  where
    below : (o : Option Success) → IfSome o (λ s. test ≡ nat_lt cost s.attacks) → (s : Success) → o ≡ Some s → attacks zs ≤ s.attacks
    below None h s is = absurd cc
    below (Some r) h s is =
        let own : r ≡ s = some_same r s is in
        let cost' : r.attacks ≡ s.attacks = ap (λ (q : Success). q.attacks) own in
        let l = ltb-true cost r.attacks (sym h ∙ it) in
        omega arith

-- Proves the step of the loop over the attempts, at an attempt that is not the best so far.
pub one_kept : (f : List ℕ → ℕ) (n m c : ℕ) (traitors : List ℕ) (tried : List Attempt) (a : Attempt) (best : Option Success) (zs : List Choice) (cost : ℕ) (test : Bool) → NoneCheaper f n m c traitors tried best → plan_for f n m c traitors a ≡ Some zs
    → IfNone best (test ≡ true) → IfSome best (λ s. test ≡ nat_lt cost s.attacks) → test ≡ false → cost ≡ attacks zs → NoneCheaper f n m c traitors (tried ++ a ∷ []) best
one_kept f n m c traitors tried a None zs cost test none e first less it same = absurd (false≢true (sym it ∙ first))
one_kept f n m c traitors tried a (Some s) zs cost test none e first less it same =
    one_dearer f n m c traitors tried a s zs none e (let l = ltb-false cost s.attacks (sym less ∙ it) in omega arith)
