-- A text, and what was written to a sink that compares with it.
use Rattle.std.proofs.Common.{◌≡◌, ◌≢◌, ℕ, zero, suc, ◌<◌, ◌≤◌, Bool, true, false, List, [], ◌∷◌, ◌++◌, length, take, Option, Some, None, refl, sym, ap, subst, ◌∙◌, append_assoc, append-nil, arith}
use Rattle.std.specs.Prelude.{slice_get, is_some, IfNone, IfSome}
use Rattle.std.specs.Io.KnownBytes.{Appends}
use Rattle.std.specs.Prelude.{option_to_list}
use Rattle.trace.specs.Compared.{taken, compared}
use Rattle.trace.specs.Sinks.{Wrote}
use Rattle.trace.specs.Audit.{IsFirstDifference}
use Rattle.text.proofs.CutLemmas.{take_front}
use Rattle.std.proofs.Math.Seq.{take-length}
use Rattle.std.proofs.lemmas.List.{length-take-le}

-- If two joined texts are equal and their first parts have the same length, the parts are equal.
split_same : (xs ys us vs : List ℕ) → length xs ≡ length ys → xs ++ us ≡ ys ++ vs → (xs ≡ ys) × (us ≡ vs)
split_same [] [] us vs e h = (refl, h)
split_same [] (y ∷ ys) us vs e h = absurd cc
split_same (x ∷ xs) [] us vs e h = absurd cc
split_same (x ∷ xs) (y ∷ ys) us vs e h =
    let first : x ≡ y = cc in
    let lengths : length xs ≡ length ys = cc in
    let tails : xs ++ us ≡ ys ++ vs = cc in
    let rest = split_same xs ys us vs lengths tails in
    ((λ i. first i ∷ rest.0 i), rest.1)

-- The text stays the same, and the received bytes are known.
pub known_again : (text now front bytes : List ℕ) → Appends (compared text []) (compared now bytes) front → (now ≡ text) × (bytes ≡ front)
known_again text now front bytes h =
    let heads : length now ≡ length text = cc in
    let tails : now ++ bytes ≡ (text ++ []) ++ front = cc in
    split_same now text bytes front heads (tails ∙ ap (λ l. l ++ front) (append-nil text))

get_behind : (xs ys : List ℕ) → slice_get (xs ++ ys) (length xs) ≡ slice_get ys 0
get_behind [] ys = refl
get_behind (x ∷ xs) ys = get_behind xs ys

get_within : (xs : List ℕ) (n : ℕ) → n < length xs → slice_get xs n ≢ None
get_within [] n lt e = absurd (omega arith)
get_within (x ∷ xs) zero lt e = absurd cc
get_within (x ∷ xs) (suc n) lt e = get_within xs n (omega arith) e

not_failed : (failed : Bool) (other : Option ℕ) → (failed ≡ true → is_some other ≡ true) → other ≡ None → failed ≡ false
not_failed true other h e = absurd (let s = h refl in let n = ap is_some e in cc)
not_failed false other h e = refl

-- Exactly the text was written.
pub same_texts : (text now written : List ℕ) (same : ℕ) (other : Option ℕ) (failed : Bool)
    → Wrote (compared text []) false written (compared now (taken now same other)) failed
    → (failed ≡ true → is_some other ≡ true) → (other ≡ None) × (same ≡ length now) → text ≡ written
same_texts text now written same other failed w refused e =
    let k = known_again text now w.front (taken now same other) w.grown in
    let fine : failed ≡ false = not_failed failed other refused e.0 in
    let all : taken now same other ≡ now = (λ i. take (e.1 i) now ++ option_to_list (e.0 i)) ∙ append-nil (take (length now) now) ∙ take-length now in
    sym (w.parts ∙ ap (λ l. w.front ++ l) (w.whole fine) ∙ append-nil w.front ∙ sym k.1 ∙ all ∙ k.0)

differs_there : (text front rest : List ℕ) (same : ℕ) (other : Option ℕ) → same ≤ length text → take same text ++ option_to_list other ≡ front → (other ≡ None → (rest ≡ []) × (same < length text)) → (slice_get text same ≡ other → other ≡ None)
    → slice_get text same ≢ slice_get (front ++ rest) same
differs_there text front rest same None le h few differs e =
    let f = few refl in
    let seam : slice_get (front ++ rest) same ≡ None =
    (λ i. slice_get (sym h i ++ f.0 i) (sym (length-take-le same text le) i))
    ∙ ap (λ l. slice_get (l ++ []) (length (take same text))) (append-nil (take same text))
    ∙ get_behind (take same text) [] in
    get_within text same f.1 (e ∙ seam)
differs_there text front rest same (Some b) le h few differs e =
    let seam : slice_get (front ++ rest) same ≡ Some b =
    (λ i. slice_get (sym h i ++ rest) (sym (length-take-le same text le) i))
    ∙ ap (λ l. slice_get l (length (take same text))) (append_assoc (take same text) (b ∷ []) rest)
    ∙ get_behind (take same text) (b ∷ rest) in
    absurd (let n = differs (e ∙ seam) in cc)

same_before : (text front rest : List ℕ) (same : ℕ) (other : Option ℕ) → same ≤ length text → take same text ++ option_to_list other ≡ front → take same text ≡ take same (front ++ rest)
same_before text front rest same other le h =
    sym ((λ i. take (sym (length-take-le same text le) i) (sym h i ++ rest))
    ∙ ap (λ l. take (length (take same text)) l) (append_assoc (take same text) (option_to_list other) rest)
    ∙ take_front (take same text) (option_to_list other ++ rest))

-- The first difference between the text and what was written.
pub first_difference : (text now written : List ℕ) (same : ℕ) (other : Option ℕ) (failed : Bool) (place : ℕ)
    → Wrote (compared text []) false written (compared now (taken now same other)) failed
    → same ≤ length now → (slice_get now same ≡ other → other ≡ None) → (failed ≡ true → is_some other ≡ true)
    → (place ≡ same) × (other ≡ None → place < length now) → IsFirstDifference text written place
first_difference text now written same other failed place w within differs refused e =
    let k = known_again text now w.front (taken now same other) w.grown in
    let few : other ≡ None → (w.rest ≡ []) × (same < length now) = (λ n. (w.whole (not_failed failed other refused n), let lt = e.1 n in let p = e.0 in omega arith)) in
    let there : IsFirstDifference now (w.front ++ w.rest) same = record {
      within = within;
      same = same_before now w.front w.rest same other within k.1;
      differs = differs_there now w.front w.rest same other within k.1 few differs;
    } in
    subst (λ p. IsFirstDifference text written p) (sym e.0)
    (subst (λ t. IsFirstDifference t written same) k.0 (subst (λ u. IsFirstDifference now u same) (sym w.parts) there))

-- A comparison that begins with this text.
pub started : (text first written : List ℕ) (same : ℕ) (other : Option ℕ) (failed : Bool) (new : Option (List ℕ)) (after : Bool)
    → first ≡ text → (same ≡ 0) × (other ≡ None) × (failed ≡ false) → Wrote (compared first (taken first same other)) failed written new after → Wrote (compared text []) false written new after
started text first written same other failed new after e fresh w =
    subst (λ t. Wrote (compared t (taken t 0 None)) false written new after) e
    (subst (λ n. Wrote (compared first (taken first n None)) false written new after) fresh.0
    (subst (λ o. Wrote (compared first (taken first same o)) false written new after) fresh.1
    (subst (λ b. Wrote (compared first (taken first same other)) b written new after) fresh.2 w)))

-- What follows whether or not there is a result.
pub if_none : {P Q : Type 0} (r : Option ℕ) → (P → Q) → IfNone r P → IfNone r Q
if_none None f h = f h
if_none (Some n) f h = tt

pub if_some : {P Q : ℕ → Type 0} (r : Option ℕ) → ((n : ℕ) → P n → Q n) → IfSome r P → IfSome r Q
if_some None f h = tt
if_some (Some n) f h = f n h
