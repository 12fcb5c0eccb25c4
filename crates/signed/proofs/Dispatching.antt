-- What entries and letters send: whose signature is last on a chain, who receives it, and how many chains there are.
use Rattle.std.proofs.Common.{◌≡◌, ℕ, zero, suc, ◌+◌, ◌<◌, ◌≤◌, Bool, true, false, not, cond, List, [], ◌∷◌, ◌++◌, map, length, refl, sym, ap, ◌∙◌, arith, inl, inr, length-append, append-nil, append_assoc, get_or, take, Option, None, Some}
use Rattle.std.specs.Prelude.{filter, slice_get, ◌==◌, ◌⊎◌}
use Rattle.std.proofs.lemmas.Bool.{cases_Bool, eqb-true, not_from_false, not_from_true, or_left, or_right, or_cases, false_from_ne_true}
use Rattle.std.proofs.lemmas.List.{take_more}
use Rattle.label.specs.Labels.{on, generals, others}
use Rattle.label.proofs.Counting.{range-on, others-on}
use Rattle.signed.specs.Chains.{Chain, Among, signed_also, signed_alone}
use Rattle.signed.specs.Accepted.{Deliveries, came, held}
use Rattle.signed.specs.Agreement.{IsHeld}
use Rattle.signed.specs.Entries.{Dispatch, Entry, Sign, Pass, passed_on, chain_of, bits_of, sent_by, dispatched, to_all_others, received}
use Rattle.signed.specs.Laws.{chains_in}
use Rattle.signed.proofs.Lists.{append_out}
use Rattle.signed.proofs.Accepting.{came_out}
use Rattle.signed.proofs.Places.{get_among}

received_more : (p : ℕ) (x : Dispatch) (xs : List Dispatch) (ch : Chain) → (Among ch (received p xs) → Among ch (chains_in xs)) → (b : Bool) → Among ch (map (λ y. y.chain) (cond b (x ∷ filter (λ y. on y.receivers p) xs) (filter (λ y. on y.receivers p) xs))) → Among ch (chains_in (x ∷ xs))
received_more p x xs ch ih true h = elim h [ inl q ↦ inl q | inr m ↦ inr (ih m) ]
received_more p x xs ch ih false h = inr (ih h)

-- A chain that somebody receives was sent.
pub received_out : (p : ℕ) (xs : List Dispatch) (ch : Chain) → Among ch (received p xs) → Among ch (chains_in xs)
received_out p [] ch h = absurd h
received_out p (x ∷ xs) ch h = received_more p x xs ch (received_out p xs ch) (on x.receivers p) h

-- A chain that is held came from somebody in an earlier round.
pub held_out : (n : ℕ) (S : Deliveries) (r g : ℕ) (ch : Chain) → Among ch (held n S r g) → IsHeld n S r g ch
unfolding held
held_out n S zero g ch h = absurd h
held_out n S (suc r) g ch h = elim (append_out (held n S r g) (came n S r g) ch h) [
  | inl before ↦ let i = held_out n S r g ch before in record { round = i.round; sender = i.sender; earlier = (let e = i.earlier in omega arith); general = i.general; came = i.came }
  | inr now ↦ let f = came_out n S r g ch now in record { round = r; sender = f.0; earlier = omega arith; general = f.1.0; came = f.1.1 }
]

-- An entry's chain has the commander's signature only, or extends a chain that is held.
pub record IsOfEntry (c g : ℕ) (held : List Chain) (ch : Chain) : Type 0 where
  pub how : ((g ≡ c) × (ch.signers ≡ g ∷ [])) ⊎ ((k : Chain) × (Among k held × ((on k.signers g ≡ false) × (ch ≡ signed_also k g))))

begun_more : (c g order : ℕ) (ch : Chain) (b : Bool) → (g == c) ≡ b → cond b (Some (signed_alone order g)) None ≡ Some ch → (g ≡ c) × (ch.signers ≡ g ∷ [])
begun_more c g order ch true e h = (eqb-true g c e, let q : signed_alone order g ≡ ch = cc in sym (ap (λ x. x.signers) q))
begun_more c g order ch false e h = absurd (let f : None ≡ Some ch = h in cc)

passed_more : (g : ℕ) (k ch : Chain) (b : Bool) → on k.signers g ≡ b → cond b None (Some (signed_also k g)) ≡ Some ch → (on k.signers g ≡ false) × (ch ≡ signed_also k g)
passed_more g k ch true e h = absurd (let f : None ≡ Some ch = h in cc)
passed_more g k ch false e h = (e, let q : signed_also k g ≡ ch = cc in sym q)

passed_out : (g : ℕ) (held : List Chain) (place : ℕ) (ch : Chain) (o : Option Chain) → slice_get held place ≡ o → passed_on g o ≡ Some ch → (k : Chain) × (Among k held × ((on k.signers g ≡ false) × (ch ≡ signed_also k g)))
passed_out g held place ch None e h = absurd (let f : None ≡ Some ch = h in cc)
passed_out g held place ch (Some k) e h = (k, (get_among held place k e, passed_more g k ch (on k.signers g) refl h))

pub chain_of_out : (c g : ℕ) (held : List Chain) (e : Entry) (ch : Chain) → chain_of c g held e ≡ Some ch → IsOfEntry c g held ch
chain_of_out c g held (Sign order bits) ch h = record { how = inl (begun_more c g order ch (g == c) refl h) }
chain_of_out c g held (Pass place bits) ch h = record { how = inr (passed_out g held place ch (slice_get held place) refl h) }

sent_out_more : (n : ℕ) (o : Option Chain) (bits : ℕ) (ch : Chain) → Among ch (chains_in (sent_by n o bits)) → o ≡ Some ch
sent_out_more n None bits ch h = absurd h
sent_out_more n (Some k) bits ch h = elim h [ inl q ↦ ap Some q | inr m ↦ absurd m ]

chains_append : (xs ys : List Dispatch) → chains_in (xs ++ ys) ≡ chains_in xs ++ chains_in ys
chains_append [] ys = refl
chains_append (x ∷ xs) ys = ap (λ zs. x.chain ∷ zs) (chains_append xs ys)

-- Each chain that entries send is the chain of an entry.
pub dispatched_out : (n c g : ℕ) (held : List Chain) (es : List Entry) (ch : Chain) → Among ch (chains_in (dispatched n c g held es)) → IsOfEntry c g held ch
dispatched_out n c g held [] ch h = absurd h
dispatched_out n c g held (e ∷ es) ch h =
    let first = sent_by n (chain_of c g held e) (bits_of e) in
    let rest = dispatched n c g held es in
    elim (append_out (chains_in first) (chains_in rest) ch (rw (chains_append first rest) at h)) [
      | inl now ↦ chain_of_out c g held e ch (sent_out_more n (chain_of c g held e) (bits_of e) ch now)
      | inr then ↦ dispatched_out n c g held es ch then
    ]

-- Each chain that is sent to all others was signed.
pub all_others_out : (n : ℕ) (xs : List Chain) (ch : Chain) → Among ch (chains_in (map (to_all_others n) xs)) → Among ch xs
all_others_out n [] ch h = absurd h
all_others_out n (x ∷ xs) ch h = elim h [ inl q ↦ inl q | inr m ↦ inr (all_others_out n xs ch m) ]

filter_on_more : (t : ℕ → Bool) (x : ℕ) (xs : List ℕ) (j : ℕ) → t j ≡ true → (on xs j ≡ true → on (filter t xs) j ≡ true) → (b : Bool) → t x ≡ b → on (x ∷ xs) j ≡ true → on (cond b (x ∷ filter t xs) (filter t xs)) j ≡ true
filter_on_more t x xs j h ih true e k = elim (or_cases (x == j) (on xs j) k) [ inl here ↦ or_left (x == j) (on (filter t xs) j) here | inr there ↦ or_right (x == j) (on (filter t xs) j) (ih there) ]
filter_on_more t x xs j h ih false e k = elim (or_cases (x == j) (on xs j) k) [ inl here ↦ absurd (let q : x ≡ j = eqb-true x j here in let f : t j ≡ false = rw q at e in cc) | inr there ↦ ih there ]

pub filter_on : (t : ℕ → Bool) (xs : List ℕ) (j : ℕ) → t j ≡ true → on xs j ≡ true → on (filter t xs) j ≡ true
filter_on t [] j h k = k
filter_on t (x ∷ xs) j h k = filter_on_more t x xs j h (filter_on t xs j h) (t x) refl k

-- A general is among the others exactly if he is not in the list.
pub on_others : (n : ℕ) (w : List ℕ) (q : ℕ) → q < n → on (others n w) q ≡ not (on w q)
on_others n w q l = elim (cases_Bool (on w q)) [
  | inl there ↦ false_from_ne_true (on (others n w) q) (λ h. let off = (others-on n w q h).1 in cc) ∙ sym (not_from_true (on w q) there)
  | inr off ↦ filter_on (λ j. not (on w j)) (generals n) q (not_from_false (on w q) off) (range-on 0 n q (omega arith) (omega arith)) ∙ sym (not_from_false (on w q) off)
]

received_all_more : (n q : ℕ) (x : Chain) (xs : List Chain) → received q (map (to_all_others n) xs) ≡ filter (λ ch. not (on ch.signers q)) xs → (b d : Bool) → b ≡ d
    → map (λ (y : Dispatch). y.chain) (cond b (to_all_others n x ∷ filter (λ y. on y.receivers q) (map (to_all_others n) xs)) (filter (λ y. on y.receivers q) (map (to_all_others n) xs))) ≡ cond d (x ∷ filter (λ ch. not (on ch.signers q)) xs) (filter (λ ch. not (on ch.signers q)) xs)
received_all_more n q x xs ih true true e = ap (λ zs. x ∷ zs) ih
received_all_more n q x xs ih false false e = ih
received_all_more n q x xs ih true false e = absurd cc
received_all_more n q x xs ih false true e = absurd cc

-- Of the chains sent to all others, a general receives those that he has not signed.
pub received_all : (n q : ℕ) (xs : List Chain) → q < n → received q (map (to_all_others n) xs) ≡ filter (λ ch. not (on ch.signers q)) xs
received_all n q [] l = refl
received_all n q (x ∷ xs) l = received_all_more n q x xs (received_all n q xs l) (on (others n x.signers) q) (not (on x.signers q)) (on_others n x.signers q l)

sent_few : (n : ℕ) (o : Option Chain) (bits : ℕ) → length (sent_by n o bits) ≤ 1
sent_few n None bits = omega arith
sent_few n (Some ch) bits = omega arith

pub dispatched_few : (n c g : ℕ) (held : List Chain) (es : List Entry) → length (dispatched n c g held es) ≤ length es
dispatched_few n c g held [] = omega arith
dispatched_few n c g held (e ∷ es) =
    omega (arith, length-append (sent_by n (chain_of c g held e) (bits_of e)) (dispatched n c g held es), sent_few n (chain_of c g held e) (bits_of e), dispatched_few n c g held es)

-- Entries of two lists send one after another.
dispatched-append : (n c g : ℕ) (held : List Chain) (es fs : List Entry) → dispatched n c g held (es ++ fs) ≡ dispatched n c g held es ++ dispatched n c g held fs
dispatched-append n c g held [] fs = refl
dispatched-append n c g held (e ∷ es) fs =
    ap (λ (ds : List Dispatch). sent_by n (chain_of c g held e) (bits_of e) ++ ds) (dispatched-append n c g held es fs)
    ∙ sym (append_assoc (sent_by n (chain_of c g held e) (bits_of e)) (dispatched n c g held es) (dispatched n c g held fs))

-- One more entry sends.
pub dispatched_more : (n c g : ℕ) (held : List Chain) (es : List Entry) (i : ℕ) (d : Entry) → i < length es →
    dispatched n c g held (take (i + 1) es) ≡ dispatched n c g held (take i es) ++ sent_by n (chain_of c g held (get_or es i d)) (bits_of (get_or es i d))
dispatched_more n c g held es i d inside =
    ap (dispatched n c g held) (take_more es i d inside)
    ∙ (dispatched-append n c g held (take i es) (get_or es i d ∷ [])
    ∙ ap (λ (ds : List Dispatch). dispatched n c g held (take i es) ++ ds) (append-nil (sent_by n (chain_of c g held (get_or es i d)) (bits_of (get_or es i d)))))
