-- A program may make exactly those entries by which its general can send a chain.
use Rattle.std.proofs.Common.{◌≡◌, ◌≢◌, ℕ, zero, suc, ◌+◌, ◌*◌, ◌^◌, ◌<◌, max, Bool, true, false, not, cond, List, [], ◌∷◌, map, refl, sym, ap, subst, ◌∙◌, inl, inr, ⊎_elim, Some, None, arith}
use Rattle.std.specs.Prelude.{◌==◌, ◌||◌, slice_get, is_some, sum_by}
use Rattle.std.specs.Int.{bit_at}
use Rattle.std.specs.Int.Bits.{bit_and}
use Rattle.std.proofs.lemmas.Bool.{and_parts, not-true}
use Rattle.std.proofs.lemmas.Bool.Decides.{eqb_tells}
use Rattle.std.proofs.lemmas.Nat.{or_disjoint}
use Rattle.std.proofs.lemmas.List.Sums.{sum_by-cons}
use Rattle.std.proofs.lemmas.Nat.Bits.{bit_at_or, bit_at-zero, bit_at-lt, bit_at-pow_same, bit_at-pow_other, and_pow}
use Rattle.std.specs.List.{AllByRecursion}
use Rattle.label.specs.Labels.{on, is_distinct}
use Rattle.semantics.specs.Relay.{signed}
use Rattle.semantics.specs.Entries.{is_unsigned, is_sendable}
use Rattle.signed.specs.Chains.{Chain, Among, signed_alone, signed_also, begin, prolong}
use Rattle.signed.specs.Contexts.{signer_bits}
use Rattle.signed.specs.Entries.{Entry, Sign, Pass, passed_on, chain_of}
use Rattle.round.specs.Scenario.{Scenario, shape_of}

-- One more bit.
bit_more : (n x i : ℕ) → bit_at n x ≡ 0 → bit_at (n + 2 ^ x) i ≡ max (bit_at n i) (bit_at (2 ^ x) i)
bit_more n x i none =
    let apart : bit_and n (2 ^ x) ≡ zero = and_pow n x ∙ ap (λ b. b * 2 ^ x) none ∙ (omega arith) in
    ap (λ m. bit_at m i) (sym (or_disjoint n (2 ^ x) apart)) ∙ bit_at_or n (2 ^ x) i

max_left : (b : ℕ) → b < 2 → max b 0 ≡ b
max_left b lt = omega arith

-- The bits of a list of different generals.
pub bits_are : (xs : List ℕ) (i : ℕ) → is_distinct xs ≡ true → bit_at (sum_by (λ g. 2 ^ g) xs) i ≡ cond (on xs i) 1 0
bits_are [] i d = bit_at-zero i
bits_are (x ∷ xs) i d =
    let both = and_parts (not (on xs x)) (is_distinct xs) d in
    let off : on xs x ≡ false = not-true (on xs x) both.0 in
    let S = sum_by (λ (g : ℕ). 2 ^ g) xs in
    let none : bit_at S x ≡ 0 = bits_are xs x both.1 ∙ ap (λ b. cond {A = ℕ} b 1 0) off in
    let sum : sum_by (λ g. 2 ^ g) (x ∷ xs) ≡ S + 2 ^ x = (let e = sum_by-cons (λ (g : ℕ). 2 ^ g) x xs in omega arith) in
    ap (λ m. bit_at m i) sum ∙ (bit_more S x i none ∙ ⊎_elim
    (λ (h : (x == i ≡ true) × (x ≡ i)).
    let one : bit_at (2 ^ x) i ≡ 1 = (let A : ℕ → Type 0 = λ j. bit_at (2 ^ x) j ≡ 1 in subst A h.1 (bit_at-pow_same x)) in
    let small : bit_at S i < 2 = bit_at-lt S i in
    let most : max (bit_at S i) (bit_at (2 ^ x) i) ≡ 1 = omega arith in
    most ∙ sym (ap (λ b. cond {A = ℕ} (b || on xs i) 1 0) h.0))
    (λ (h : (x == i ≡ false) × (x ≢ i)).
    let zero_bit : bit_at (2 ^ x) i ≡ 0 = bit_at-pow_other x i (λ e. h.1 (sym e)) in
    let most : max (bit_at S i) (bit_at (2 ^ x) i) ≡ bit_at S i = omega arith in
    most ∙ (bits_are xs i both.1 ∙ sym (ap (λ b. cond {A = ℕ} (b || on xs i) 1 0) h.0)))
    (eqb_tells x i))

-- So the bits of a chain's signers say who can extend it.
unsigned_is : (ch : Chain) (g : ℕ) → is_distinct ch.signers ≡ true → not (bit_at (signer_bits ch) g == 1) ≡ is_some (prolong ch g)
unsigned_is ch g d = ap (λ b. not (b == 1)) (bits_are ch.signers g d) ∙ by (on ch.signers g)
  where
    by : (b : Bool) → not (cond {A = ℕ} b 1 0 == 1) ≡ is_some (cond b None (Some (signed_also ch g)))
    by true = refl
    by false = refl

begun_is : (c g order : ℕ) → (g == c) ≡ is_some (begin c g order)
begun_is c g order = by (g == c)
  where
    by : (b : Bool) → b ≡ is_some (cond b (Some (signed_alone order g)) None)
    by true = refl
    by false = refl

abbrev AreDistinct : List Chain → Type 0
AreDistinct held = (ch : Chain) → Among ch held → is_distinct ch.signers ≡ true

passed_is : (g place : ℕ) (held : List Chain) → AreDistinct held → is_unsigned g (slice_get (map signer_bits held) place) ≡ is_some (passed_on g (slice_get held place))
passed_is g place [] d = refl
passed_is g zero (ch ∷ held) d = unsigned_is ch g (d ch (inl refl))
passed_is g (suc place) (ch ∷ held) d = passed_is g place held (λ k there. d k (inr there))

-- If the relay has the signers of the chains held, it allows exactly the entries that have a chain.
pub sendable_is : (s : Scenario) (g round : ℕ) (held : List Chain) (e : Entry) → AreDistinct held → is_sendable (signed (shape_of s g round) (map signer_bits held)) e ≡ is_some (chain_of s.commander g held e)
sendable_is s g round held (Sign order bits) d = begun_is s.commander g order
sendable_is s g round held (Pass place bits) d = passed_is g place held d

pub all_send : (t : Entry → Bool) (c g : ℕ) (held : List Chain) (es : List Entry) → ((e : Entry) → t e ≡ is_some (chain_of c g held e)) → AllByRecursion (λ e. t e ≡ true) es →
    AllByRecursion (λ e. is_some (chain_of c g held e) ≡ true) es
all_send t c g held [] is h = tt
all_send t c g held (e ∷ es) is h = (sym (is e) ∙ h.0, all_send t c g held es is h.1)
