-- Places in a message table for labels with one general more or less. A place is a label and a receiver.
use Rattle.std.proofs.Common.{ℕ, ◌+◌, ◌<◌, ◌≤◌, ◌≡◌, ◌≢◌, Bool, true, false, not, ◌&&◌, List, [], ◌∷◌, ◌++◌, length, length-append, refl, sym, ap, ◌∙◌, arith}
use Rattle.std.specs.Prelude.{◌==◌, nat_lt, nat_le}
use Rattle.std.specs.List.{list_all}
use Rattle.std.proofs.lemmas.Bool.{and_parts, and_from, not-true, leb-true, le-leb, ltb-true, lt-ltb, ne_eqb, or_parts, or_from}
use Rattle.std.proofs.lemmas.List.Folds.{list_all-append}
use Rattle.label.specs.Labels.{on, is_distinct}
use Rattle.label.specs.Space.{begins_with}
use Rattle.label.proofs.Counting.{on-push}
use Rattle.label.proofs.Ranks.{is_distinct-push}
use Rattle.book.specs.Grammar.{is_place}
use Rattle.book.specs.Table.{MessageTable}

-- States what a place in the table is.
pub record IsPlaceOf (t : MessageTable) (w : List ℕ) (p : ℕ) : Type 0 where
  pub distinct : is_distinct w ≡ true
  pub first : begins_with t.commander w ≡ true
  pub below : list_all (λ x. nat_lt x t.generals) w ≡ true
  pub short : length w ≤ t.bound + 1
  pub general : p < t.generals
  pub off : on w p ≡ false

pub place_parts : (t : MessageTable) (w : List ℕ) (p : ℕ) → is_place t w p ≡ true → IsPlaceOf t w p
place_parts t w p e =
    let a : Bool = is_distinct w in
    let b : Bool = begins_with t.commander w in
    let c : Bool = list_all (λ x. nat_lt x t.generals) w in
    let d : Bool = nat_le (length w) (t.bound + 1) in
    let f : Bool = nat_lt p t.generals in
    let five = and_parts (a && b && c && d && f) (not (on w p)) e in
    let four = and_parts (a && b && c && d) f five.0 in
    let three = and_parts (a && b && c) d four.0 in
    let two = and_parts (a && b) c three.0 in
    let one = and_parts a b two.0 in
    record {
      distinct = one.0;
      first = one.1;
      below = two.1;
      short = leb-true (length w) (t.bound + 1) three.1;
      general = ltb-true p t.generals four.1;
      off = not-true (on w p) five.1;
    }

pub place_from : (t : MessageTable) (w : List ℕ) (p : ℕ) → IsPlaceOf t w p → is_place t w p ≡ true
place_from t w p is =
    let a : Bool = is_distinct w in
    let b : Bool = begins_with t.commander w in
    let c : Bool = list_all (λ x. nat_lt x t.generals) w in
    let d : Bool = nat_le (length w) (t.bound + 1) in
    let f : Bool = nat_lt p t.generals in
    and_from (a && b && c && d && f) (not (on w p))
    (and_from (a && b && c && d) f (and_from (a && b && c) d (and_from (a && b) c (and_from a b is.distinct is.first) is.below) (le-leb (length w) (t.bound + 1) is.short)) (lt-ltb p t.generals is.general))
    (ap not is.off)

begun : (c : ℕ) (w more : List ℕ) → 0 < length w → begins_with c (w ++ more) ≡ begins_with c w
begun c [] more some = absurd (omega arith)
begun c (x ∷ xs) more some = refl

begun-more : (c : ℕ) (w more : List ℕ) → begins_with c w ≡ true → begins_with c (w ++ more) ≡ true
begun-more c [] more e = cc
begun-more c (x ∷ xs) more e = e

-- Proves that a sender of a message about a label received a message for that label.
pub teller_told : (t : MessageTable) (w : List ℕ) (j p : ℕ) → 0 < length w → is_place t (w ++ j ∷ []) p ≡ true → is_place t w j ≡ true
teller_told t w j p some e =
    let is = place_parts t (w ++ j ∷ []) p e in
    let apart = and_parts (is_distinct w) (not (on w j)) (sym (is_distinct-push w j) ∙ is.distinct) in
    let all = and_parts (list_all (λ x. nat_lt x t.generals) w) (nat_lt j t.generals && true) (sym (list_all-append (λ x. nat_lt x t.generals) w (j ∷ [])) ∙ is.below) in
    let last = and_parts (nat_lt j t.generals) true all.1 in
    let long : length (w ++ j ∷ []) ≡ length w + 1 = length-append w (j ∷ []) in
    let short = is.short in
    place_from t w j (record {
      distinct = apart.0;
      first = sym (begun t.commander w (j ∷ []) some) ∙ is.first;
      below = all.0;
      short = omega arith;
      general = ltb-true j t.generals last.0;
      off = not-true (on w j) apart.1;
    })

-- Proves that p also received a message for the shorter label.
pub place_above : (t : MessageTable) (w : List ℕ) (j p : ℕ) → 0 < length w → is_place t (w ++ j ∷ []) p ≡ true → is_place t w p ≡ true
place_above t w j p some e =
    let is = place_parts t (w ++ j ∷ []) p e in
    let his = place_parts t w j (teller_told t w j p some e) in
    let off = or_parts (on w p) (j == p) (sym (on-push w j p) ∙ is.off) in
    place_from t w p (record {
      distinct = his.distinct;
      first = his.first;
      below = his.below;
      short = his.short;
      general = is.general;
      off = off.0;
    })

-- Proves that each general who is neither on the label nor p extends it to a place, while the label is short enough.
pub place_next : (t : MessageTable) (w : List ℕ) (j p : ℕ) → is_place t w p ≡ true → length w ≤ t.bound → j < t.generals → on w j ≡ false → j ≢ p → is_place t (w ++ j ∷ []) p ≡ true
place_next t w j p e room below fresh apart =
    let is = place_parts t w p e in
    let long : length (w ++ j ∷ []) ≡ length w + 1 = length-append w (j ∷ []) in
    place_from t (w ++ j ∷ []) p (record {
      distinct = is_distinct-push w j ∙ and_from (is_distinct w) (not (on w j)) is.distinct (ap not fresh);
      first = begun-more t.commander w (j ∷ []) is.first;
      below = list_all-append (λ x. nat_lt x t.generals) w (j ∷ []) ∙ and_from (list_all (λ x. nat_lt x t.generals) w) (nat_lt j t.generals && true) is.below (and_from (nat_lt j t.generals) true (lt-ltb j t.generals below) refl);
      short = omega arith;
      general = is.general;
      off = on-push w j p ∙ or_from (on w p) (j == p) is.off (ne_eqb j p apart);
    })
