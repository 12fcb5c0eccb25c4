-- The ranks of a label that is extended by one general.
use Rattle.std.proofs.Common.{◌≡◌, ◌≢◌, ℕ, zero, suc, ◌+◌, ◌-◌, ◌*◌, ◌<◌, ◌≤◌, ◌^◌, List, [], ◌∷◌, ◌++◌, length, get_or, set, Bool, true, false, cond, refl, sym, ap, ◌∙◌, subst, Some, arith, ⊎_elim, length-append, replicate, length-set, get_or-set_same, get_or-set_other}
use Rattle.std.specs.Prelude.{slice_get, slice_index, slice_index_or, ◌==◌, ◌||◌, nat_lt}
use Rattle.std.proofs.lemmas.Bool.{eq-eqb, ne_eqb, or_parts, true≢false, ltb-true, ltb-false, cases_Bool}
use Rattle.std.proofs.lemmas.Bool.Decides.{eqb_tells}
use Rattle.label.specs.Labels.{on, others, labels}
use Rattle.label.specs.Oral.{BeginsWith}
use Rattle.label.proofs.Below.{absent, turned}
use Rattle.label.proofs.Bounds.{others_here}
use Rattle.label.proofs.Counting.{on-push, others-length}
use Rattle.label.proofs.Counts.{rank-fits}
use Rattle.label.proofs.Listing.{proved_children_stand}
use Rattle.label.proofs.Places.{first_label}
use Rattle.label.proofs.Pushes.{IsLabel-push}
use Rattle.round.specs.Fronts.{IsFront}
use Rattle.round.specs.declared.front.LabelPrefix.{LabelPrefix}

-- How many generals below `j` are off the label, if another one is excluded, too.
pub below-lacked : (j x : ℕ) (w : List ℕ) → on w x ≡ false → length (others j (x ∷ w)) + cond {A = ℕ} (nat_lt x j) 1 0 ≡ length (others j w)
below-lacked j x w off = ⊎_elim
    (λ (h : nat_lt x j ≡ true).
    let lt : x < j = ltb-true x j h in
    let more : length (others j w) ≡ 1 + length (others j (w ++ x ∷ [])) = others-length j w x lt off in
    let same : length (others j (x ∷ w)) ≡ length (others j (w ++ x ∷ [])) = ap length (turned j w x) in
    rw h (omega arith))
    (λ (h : nat_lt x j ≡ false).
    let le : j ≤ x = ltb-false x j h in
    let less : length (others j (w ++ x ∷ [])) ≡ length (others j w) = absent j w x le in
    let same : length (others j (x ∷ w)) ≡ length (others j (w ++ x ∷ [])) = ap length (turned j w x) in
    rw h (omega arith))
    (cases_Bool (nat_lt x j))

-- A general off a label is a lieutenant.
pub off-lieutenant : (c x : ℕ) (w : List ℕ) → BeginsWith c w → on w x ≡ false → x ≢ c
off-lieutenant c x [] b off = absurd b
off-lieutenant c x (y ∷ w) b off = λ e. true≢false (sym (rw (eq-eqb y x (b ∙ sym e)) refl) ∙ off)

pub off-lacked : (x j : ℕ) (w : List ℕ) → x ≢ j → on w j ≡ false → on (x ∷ w) j ≡ false
off-lacked x j w ne off = rw (ne_eqb x j ne, off) refl

pub begun-long : (c : ℕ) (w : List ℕ) → BeginsWith c w → length w ≡ suc (length w - 1)
begun-long c [] b = absurd b
begun-long c (x ∷ w) b = omega arith

-- The rank of the longer label among those without a general who is off it.
pub child_rank : (n c x r j t width : ℕ) (w : List ℕ) → c < n → x < n → j < n → BeginsWith c w → on w x ≡ false → on w j ≡ false → x ≢ j →
    slice_get (labels n c x (length w)) r ≡ Some w → t ≡ length (others j (x ∷ w)) → width ≡ n - (length w + 1) → slice_get (labels n c x (length (w ++ j ∷ []))) (r * width + t) ≡ Some (w ++ j ∷ [])
child_rank n c x r j t width w inside within below b off away ne at et ew =
    let long : length w ≡ suc (length w - 1) = begun-long c w b in
    let longer : suc (suc (length w - 1)) ≡ length (w ++ j ∷ []) = let l = length-append w (j ∷ []) in omega arith in
    let width' : n - 2 - (length w - 1) ≡ width = omega arith in
    subst (λ (k : ℕ). slice_get (labels n c x k) (r * width + t) ≡ Some (w ++ j ∷ [])) longer
    (subst (λ (v : ℕ). slice_get (labels n c x (suc (suc (length w - 1)))) (r * v + t) ≡ Some (w ++ j ∷ [])) width'
    (proved_children_stand n c x (length w - 1) r t j w inside within (off-lieutenant c x w b off) (subst (λ (k : ℕ). slice_get (labels n c x k) r ≡ Some w) long at) (others_here n (x ∷ w) t j below (off-lacked x j w ne away) et)))

-- This rank is below 2 ^ 32.
pub child_fits : (n c x k r : ℕ) (w : List ℕ) → n ≤ 13 → c < n → x < n → x ≢ c → k ≤ 13 → 0 < k → slice_get (labels n c x k) r ≡ Some w → r < 2 ^ 32
child_fits n c x k r w few inside within ne small some at =
    let e : k ≡ k - 1 + 1 = omega arith in
    rank-fits (record { generals = n; commander = c; general = x }) (record { generals = few; commander = inside; general = within; lieutenant = ne }) (k - 1) r w (omega arith) (subst (λ (q : ℕ). slice_get (labels n c x q) r ≡ Some w) e at)

-- The label extended by one general, as the code stores it.
pub front_with : (n c j below width size : ℕ) (w : List ℕ) (f : LabelPrefix) (marks : List Bool) (ranks : List ℕ) → IsFront n c w f → n ≤ 13 → c < n → j < n → on w j ≡ false → below ≡ length (others j w) → width ≡ n - (f.size + 1) → size ≡ f.size + 1 →
    f.size < 13 → marks ≡ set f.on j true → length ranks ≡ 13 → ((x t : ℕ) → x < 13 → t + cond {A = ℕ} (nat_lt x j) 1 0 ≡ below → slice_index f.ranks x * width + t < 2 ^ 32 → slice_index ranks x ≡ slice_index f.ranks x * width + t) →
    IsFront n c (w ++ j ∷ []) (record { size = size; on = marks; ranks = ranks })
front_with n c j below width size w f marks ranks h few inside within off eb ew es short em long next = record {
  label = IsLabel-push h.label j within off;
  size = (let l = length-append w (j ∷ []) in let s = h.size in omega arith);
  wide = ap length em ∙ (length-set f.on j true ∙ h.wide);
  long = long;
  marks = λ x lt. ap (λ (l : List Bool). slice_index_or l x false) em ∙ marked x lt;
  stands = λ x lt away.
      let parts = or_parts (on w x) (j == x) (sym (on-push w j x) ∙ away) in
      let ne : x ≢ j = λ e. true≢false (sym (eq-eqb j x (sym e)) ∙ parts.1) in
      let s = h.size in
      let t : length (others j (x ∷ w)) + cond {A = ℕ} (nat_lt x j) 1 0 ≡ below = below-lacked j x w parts.0 ∙ sym eb in
      let ew' : width ≡ n - (length w + 1) = omega arith in
      let child : slice_get (labels n c x (length (w ++ j ∷ []))) (slice_index f.ranks x * width + length (others j (x ∷ w))) ≡ Some (w ++ j ∷ []) =
      child_rank n c x (slice_index f.ranks x) j (length (others j (x ∷ w))) width w inside lt within h.label.first parts.0 off ne (h.stands x lt parts.0) refl ew' in
      let more = length-append w (j ∷ []) in
      let fits : slice_index f.ranks x * width + length (others j (x ∷ w)) < 2 ^ 32 = child_fits n c x (length (w ++ j ∷ [])) _ (w ++ j ∷ []) few inside lt (off-lieutenant c x w h.label.first parts.0) (omega arith) (omega arith) child in
      ap (λ (r : ℕ). slice_get (labels n c x (length (w ++ j ∷ []))) r) (next x (length (others j (x ∷ w))) (omega arith) t fits) ∙ child;
}
  where
    or-true : (b : Bool) → (b || true) ≡ true
    or-true true = refl
    or-true false = refl

    or-false : (b : Bool) → (b || false) ≡ b
    or-false true = refl
    or-false false = refl

    marked : (x : ℕ) → x < n → slice_index_or (set f.on j true) x false ≡ on (w ++ j ∷ []) x
    marked x lt = ⊎_elim
        (λ (q : (j == x ≡ true) × (j ≡ x)).
        let room : j < length f.on = let l = h.wide in omega arith in
        ap (λ (k : ℕ). get_or (set f.on j true) k false) (sym q.1) ∙ (get_or-set_same f.on j true false room ∙ sym (on-push w j x ∙ (ap (λ b. on w x || b) q.0 ∙ or-true (on w x)))))
        (λ (q : (j == x ≡ false) × (j ≢ x)).
        let ne : x ≢ j = λ e. q.1 (sym e) in
        get_or-set_other f.on j x true false ne ∙ (h.marks x lt ∙ sym (on-push w j x ∙ (ap (λ b. on w x || b) q.0 ∙ or-false (on w x)))))
        (eqb_tells j x)

-- The label of the commander, as the code stores it.
pub front_alone : (n c : ℕ) (marks : List Bool) (ranks : List ℕ) → c < n → n ≤ 13 → marks ≡ set (replicate 13 false) c true → ranks ≡ replicate 13 0 → IsFront n c (c ∷ []) (record { size = 1; on = marks; ranks = ranks })
front_alone n c marks ranks inside few em er = record {
  label = record { first = refl; below = (inside, tt); distinct = refl };
  size = refl;
  wide = ap length em ∙ length-set (replicate 13 false) c true;
  long = ap length er;
  marks = λ x lt. ap (λ (l : List Bool). slice_index_or l x false) em ∙ marked x;
  stands = λ x lt off.
      ap (λ (r : ℕ). slice_get (labels n c x 1) r) (ap (λ (l : List ℕ). slice_index l x) er ∙ none 13 x)
      ∙ ap (λ ws. slice_get ws 0) (first_label n c x (off-lieutenant c x (c ∷ []) refl off));
}
  where
    none : (k x : ℕ) → slice_index (replicate k 0) x ≡ 0
    none zero x = refl
    none (suc k) zero = refl
    none (suc k) (suc x) = none k x

    unmarked : (k x : ℕ) → get_or (replicate k false) x false ≡ false
    unmarked zero x = refl
    unmarked (suc k) zero = refl
    unmarked (suc k) (suc x) = unmarked k x

    or-false : (b : Bool) → (b || false) ≡ b
    or-false true = refl
    or-false false = refl

    marked : (x : ℕ) → slice_index_or (set (replicate 13 false) c true) x false ≡ on (c ∷ []) x
    marked x = ⊎_elim
        (λ (q : (c == x ≡ true) × (c ≡ x)).
        ap (λ (k : ℕ). get_or (set (replicate 13 false) c true) k false) (sym q.1) ∙ (get_or-set_same (replicate 13 false) c true false (omega arith) ∙ sym (or-false (c == x) ∙ q.0)))
        (λ (q : (c == x ≡ false) × (c ≢ x)).
        let ne : x ≢ c = λ e. q.1 (sym e) in
        get_or-set_other (replicate 13 false) c x true false ne ∙ (unmarked 13 x ∙ sym (or-false (c == x) ∙ q.0)))
        (eqb_tells c x)

-- One more element of an array is written.
pub set_more : (rs : List ℕ) (i x v target : ℕ) → i < length rs → x < i + 1 → (x < i → get_or rs x 0 ≡ target) → (x ≡ i → v ≡ target) → get_or (set rs i v) x 0 ≡ target
set_more rs i x v target room less before here = ⊎_elim
    (λ (q : (x == i ≡ true) × (x ≡ i)). ap (λ (k : ℕ). get_or (set rs i v) k 0) q.1 ∙ (get_or-set_same rs i v 0 room ∙ here q.1))
    (λ (q : (x == i ≡ false) × (x ≢ i)). get_or-set_other rs i x v 0 q.1 ∙ before (let n = q.1 in omega arith))
    (eqb_tells x i)
