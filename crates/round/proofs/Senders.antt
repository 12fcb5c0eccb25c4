-- What a general's letter sends, by the rank of a label and the receiver.
use Rattle.std.proofs.Common.{◌≡◌, ◌≢◌, ℕ, zero, suc, ◌+◌, ◌-◌, ◌<◌, ◌≤◌, List, [], ◌∷◌, length, take, get_or, Bool, true, false, cond, refl, sym, ap, ◌∙◌, Some, None, Option, arith, ⊎_elim}
use Rattle.std.specs.Prelude.{slice_get, ◌==◌, bytes_eq, if◌then◌else◌}
use Rattle.std.proofs.lemmas.Bool.{eq-eqb, eqb-true, false_from_ne_true}
use Rattle.std.proofs.lemmas.Bool.Decides.{eqb_tells}
use Rattle.std.proofs.lemmas.Slice.Eq.{bytes_eq-Decides}
use Rattle.label.specs.declared.shape.Shape.{Shape}
use Rattle.label.specs.Relay.{relay, receivers}
use Rattle.label.proofs.Listing.{proved_labels_differ}
use Rattle.semantics.specs.Relay.{Kind, Oral, Signed, Relay, oral}
use Rattle.semantics.specs.declared.entry.Entry.{Entry}
use Rattle.semantics.proofs.PlacesLaws.{row_from, rows_from}
use Rattle.outbox.specs.Contents.{order_among, order_at}
use Rattle.round.specs.Letters.{Letter, value_beside, tells, letter_of}
use Rattle.round.specs.Laws.{OutboxesTell}

-- The element at the index of the only one that passes.
beside-at : {A B : Type 0} (is : A → Bool) (d : B) (xs : List A) (ys : List B) (i : ℕ) (x : A) → slice_get xs i ≡ Some x → is x ≡ true → ((j : ℕ) (y : A) → slice_get xs j ≡ Some y → is y ≡ true → j ≡ i) → value_beside is d xs ys ≡ get_or ys i d
beside-at is d [] ys i x at t only = cc
beside-at is d (z ∷ xs) [] i x at t only = past i
  where
    past : (i : ℕ) → d ≡ get_or [] i d
    past zero = refl
    past (suc i) = refl
beside-at is d (z ∷ xs) (y ∷ ys) zero x at t only = let e : z ≡ x = cc in rw (ap is e ∙ t) refl
beside-at is d (z ∷ xs) (y ∷ ys) (suc i) x at t only =
    rw (false_from_ne_true (is z) (λ h. nonzero (only 0 z refl h))) (beside-at is d xs ys i x at t (λ j v e h. less j (only (suc j) v e h)))
  where
    nonzero : 0 ≡ suc i → ⊥
    nonzero e = omega arith

    less : (j : ℕ) → suc j ≡ suc i → j ≡ i
    less j e = omega arith

only_first : (i j : ℕ) (u : List ℕ) (b : Bool) → slice_get (cond {A = List (List ℕ)} b ([] ∷ []) []) i ≡ Some u → slice_get (cond {A = List (List ℕ)} b ([] ∷ []) []) j ≡ Some u → i ≡ j
only_first zero zero u true e f = refl
only_first (suc i) j u true e f = cc
only_first zero (suc j) u true e f = cc
only_first i j u false e f = cc

relay_differ : (s : Shape) (i j : ℕ) (u : List ℕ) → s.commander < s.generals → s.general < s.generals → slice_get (relay s) i ≡ Some u → slice_get (relay s) j ≡ Some u → i ≡ j
relay_differ s i j u commander general = ⊎_elim
    (λ (q : (s.general == s.commander ≡ true) × (s.general ≡ s.commander)). rw q.0 (λ e f. only_first i j u (s.round == 1) e f))
    (λ (q : (s.general == s.commander ≡ false) × (s.general ≢ s.commander)). rw q.0 (λ e f. proved_labels_differ s.generals s.commander s.general (s.round - 1) i j u commander general q.1 e f))
    (eqb_tells s.general s.commander)

-- The order by rank and receiver.
order_beside : (p k b : ℕ) (ns : List ℕ) (os : List (Option ℕ)) → order_among p (row_from k b ns) os ≡ value_beside (λ j. j == p) None ns os
order_beside p k b [] os = refl
order_beside p k b (n ∷ ns) [] = refl
order_beside p k b (n ∷ ns) (o ∷ os) = ap (λ r. if n == p then o else r) (order_beside p k (b + 1) ns os)

places_at : (s : Shape) (a i : ℕ) (ws : List (List ℕ)) (u : List ℕ) → slice_get ws i ≡ Some u → get_or (rows_from s a ws) i [] ≡ row_from (a + i) 0 (receivers s u)
places_at s a i [] u at = cc
places_at s a zero (w ∷ ws) u at =
    let e : w ≡ u = cc in
    let k : a ≡ a + 0 = omega arith in
    ap (λ v. row_from a 0 (receivers s v)) e ∙ ap (λ (m : ℕ). row_from m 0 (receivers s u)) k
places_at s a (suc i) (w ∷ ws) u at =
    let k : a + 1 + i ≡ a + suc i = omega arith in
    places_at s (a + 1) i ws u at ∙ ap (λ (m : ℕ). row_from m 0 (receivers s u)) k

beside-nothing : {A B : Type 0} (is : A → Bool) (none : B) (xs : List A) → value_beside is none xs [] ≡ none
beside-nothing is none [] = refl
beside-nothing is none (x ∷ xs) = refl

spoken_tells : (s : Shape) (outbox : List (List (Option ℕ))) (entries : List Entry) (u : List ℕ) (p rank : ℕ) → s.commander < s.generals → s.general < s.generals → slice_get (relay s) rank ≡ Some u →
    order_at (oral s) outbox rank p ≡ tells (record { relay = oral s; rows = outbox; entries = entries }) u p
spoken_tells s outbox entries u p rank commander general at =
    ap (λ ps. order_among p ps (get_or outbox rank [])) (places_at s 0 rank (relay s) u at)
    ∙ (order_beside p (0 + rank) 0 (receivers s u) (get_or outbox rank [])
    ∙ sym (ap (λ row. value_beside (λ j. j == p) None (receivers s u) row)
    (beside-at (λ v. bytes_eq v u) [] (relay s) outbox rank u at ((bytes_eq-Decides u u).1 refl) (λ j y e h. relay_differ s j rank u commander general (e ∙ ap Some ((bytes_eq-Decides y u).0 h)) at))))

kind_tells : (kind : Kind) (s : Shape) (outbox : List (List (Option ℕ))) (entries : List Entry) (u : List ℕ) (p rank : ℕ) → s.commander < s.generals → s.general < s.generals → slice_get (relay s) rank ≡ Some u →
    order_at (record { shape = s; kind = kind }) outbox rank p ≡ tells (record { relay = record { shape = s; kind = kind }; rows = outbox; entries = entries }) u p
kind_tells Oral s outbox entries u p rank commander general at = spoken_tells s outbox entries u p rank commander general at
kind_tells (Signed held) s outbox entries u p rank commander general at = sym (beside-nothing (λ j. j == p) None (receivers s u))

-- An outbox of a signed campaign has no orders by rank and receiver.
pub order_tells : (r : Relay) (outbox : List (List (Option ℕ))) (entries : List Entry) (u : List ℕ) (p rank : ℕ) → r.shape.commander < r.shape.generals → r.shape.general < r.shape.generals → slice_get (relay r.shape) rank ≡ Some u →
    order_at r outbox rank p ≡ tells (record { relay = r; rows = outbox; entries = entries }) u p
order_tells r outbox entries u p rank commander general at = kind_tells r.kind r.shape outbox entries u p rank commander general at

pub proved_outboxes_tell : OutboxesTell
proved_outboxes_tell = record {
  orders = λ outbox label rank receiver is at. sym (order_tells outbox.relay outbox.rows outbox.entries label receiver rank is.commander is.general at);
}

-- The index of a general's letter.
pub letter_stands : (row : List Letter) (g : ℕ) (l : Letter) → letter_of row g ≡ Some l → (i : ℕ) × (slice_get row i ≡ Some l) × (l.general ≡ g)
letter_stands [] g l e = cc
letter_stands (x ∷ row) g l e = ⊎_elim
    (λ (q : (x.general == g ≡ true) × (x.general ≡ g)). let h : Some x ≡ Some l = rw q.0 at e in let same : x ≡ l = cc in (0, ap Some same, ap (λ (y : Letter). y.general) (sym same) ∙ q.1))
    (λ (q : (x.general == g ≡ false) × (x.general ≢ g)). let h : letter_of row g ≡ Some l = rw q.0 at e in let r = letter_stands row g l h in (suc r.0, r.1, r.2))
    (eqb_tells x.general g)

-- The letter at an index.
pub found_at : (row : List Letter) (i : ℕ) (l d : Letter) → i < length row → l ≡ get_or row i d → slice_get row i ≡ Some l
found_at [] i l d lt at = absurd (omega arith)
found_at (x ∷ row) zero l d lt at = ap Some (sym at)
found_at (x ∷ row) (suc i) l d lt at = found_at row i l d (omega arith) at

-- The first letter of a general.
pub first_letter : (row : List Letter) (last i : ℕ) (l d : Letter) → i < length row → l ≡ get_or row i d → l.general ≡ last → letter_of (take i row) last ≡ None → letter_of row last ≡ Some l
first_letter [] last i l d lt at is none = absurd (omega arith)
first_letter (x ∷ row) last zero l d lt at is none = let e : x.general ≡ last = ap (λ (y : Letter). y.general) (sym at) ∙ is in rw (eq-eqb x.general last e) (ap Some (sym at))
first_letter (x ∷ row) last (suc i) l d lt at is none = ⊎_elim
    (λ (q : (x.general == last ≡ true) × (x.general ≡ last)). absurd (some_none (rw q.0 at none)))
    (λ (q : (x.general == last ≡ false) × (x.general ≢ last)). rw q.0 (first_letter row last i l d (omega arith) at is (rw q.0 at none)))
    (eqb_tells x.general last)
  where
    some_none : Some x ≡ None → ⊥
    some_none e = cc

none_next : (row : List Letter) (last i : ℕ) (l d : Letter) → i < length row → l ≡ get_or row i d → (l.general ≡ last → ⊥) → letter_of (take i row) last ≡ None → letter_of (take (suc i) row) last ≡ None
none_next [] last i l d lt at ne none = absurd (omega arith)
none_next (x ∷ row) last zero l d lt at ne none = rw (false_from_ne_true (x.general == last) (λ h. ne (ap (λ (y : Letter). y.general) at ∙ eqb-true x.general last h))) refl
none_next (x ∷ row) last (suc i) l d lt at ne none = ⊎_elim
    (λ (q : (x.general == last ≡ true) × (x.general ≡ last)). absurd (some_none (rw q.0 at none)))
    (λ (q : (x.general == last ≡ false) × (x.general ≢ last)). rw q.0 (none_next row last i l d (omega arith) at ne (rw q.0 at none)))
    (eqb_tells x.general last)
  where
    some_none : Some x ≡ None → ⊥
    some_none e = cc

pub none_more : (row : List Letter) (last i : ℕ) (l d : Letter) → i < length row → l ≡ get_or row i d → (l.general ≡ last → ⊥) → letter_of (take i row) last ≡ None → letter_of (take (i + 1) row) last ≡ None
none_more row last i l d lt at ne none = let z : i + 1 ≡ suc i = omega arith in ap (λ (k : ℕ). letter_of (take k row) last) z ∙ none_next row last i l d lt at ne none

-- There is no letter after the last.
pub none_left : (row : List Letter) (g i : ℕ) → length row ≤ i → letter_of (take i row) g ≡ None → slice_get row (length row) ≡ letter_of row g
none_left row g i all none = nothing_past row ∙ (sym none ∙ ap (λ ls. letter_of ls g) (whole row i all))
  where
    nothing_past : (row : List Letter) → slice_get row (length row) ≡ None
    nothing_past [] = refl
    nothing_past (x ∷ row) = nothing_past row

    whole : (row : List Letter) (i : ℕ) → length row ≤ i → take i row ≡ row
    whole [] zero all = refl
    whole [] (suc i) all = refl
    whole (x ∷ row) zero all = absurd (omega arith)
    whole (x ∷ row) (suc i) all = ap (λ xs. x ∷ xs) (whole row i (omega arith))
