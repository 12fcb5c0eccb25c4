-- The agreement theorem of signed messages (TOPLAS 1982, Theorem 2), whatever chains the traitors send.
use Rattle.std.specs.Prelude.{ℕ, suc, ◌≡◌, ◌+◌, ◌<◌, ◌≤◌, Bool, true, false, not, List, [], ◌∷◌, filter, count_by, ◌⊎◌}
use Rattle.label.specs.Labels.{on, generals}
use Rattle.label.specs.Oral.{IsLoyalLieutenant}
use Rattle.signed.specs.Chains.{Chain, Among, signed_also}
use Rattle.signed.specs.Accepted.{Deliveries, accepted, decided, loyal_chains}

-- States that general `g` follows the protocol: he signs the chains that SM(m) has him sign, and sends each to all
-- generals who have not signed it.
abbrev pub IsLoyal : ℕ → ℕ → ℕ → ℕ → Deliveries → ℕ → Type 0
IsLoyal n c m order S g =
    (r q : ℕ) → q < n → S r g q ≡ filter (λ ch. not (on ch.signers q)) (loyal_chains n c m order S r g)

-- States that general `g` received the chain in some round before `r`.
pub record IsHeld (n : ℕ) (S : Deliveries) (r g : ℕ) (ch : Chain) : Type 0 where
  pub round : ℕ
  pub sender : ℕ
  pub earlier : round < r
  pub general : sender < n
  pub came : Among ch (S round sender g)

-- States that the chain is one that general `g` received in some round before `r` and had not signed, extended by his
-- signature.
pub record IsPassedOn (n : ℕ) (S : Deliveries) (r g : ℕ) (ch : Chain) : Type 0 where
  pub held : Chain
  pub there : IsHeld n S r g held
  pub once : on held.signers g ≡ false
  pub signed : ch ≡ signed_also held g

-- States that general `g` signs only in his own name (assumption A4). Each chain that he sends either has only his
-- signature, and he is the commander, or extends a chain that he received by his signature.
abbrev pub SignsForHimself : ℕ → ℕ → Deliveries → ℕ → Type 0
SignsForHimself n c S g =
    (r p : ℕ) (ch : Chain) → p < n → Among ch (S r g p) → ((g ≡ c) × (ch.signers ≡ g ∷ [])) ⊎ IsPassedOn n S r g ch

-- States that at most m generals are traitors, and that there are at least m + 2 generals.
pub record IsSignedBound (n m : ℕ) (traitor : ℕ → Bool) : Type 0 where
  pub enough : m + 2 ≤ n
  pub few : count_by traitor (generals n) ≤ m

-- States that all loyal lieutenants accept the same orders and decide on the same one, and that they obey a loyal
-- commander.
pub record SignedAgree (n c order : ℕ) (traitor : ℕ → Bool) (accepts : ℕ → List ℕ) : Type 0 where
  pub same : (p q v : ℕ) → IsLoyalLieutenant n c traitor p → IsLoyalLieutenant n c traitor q →
      on (accepts p) v ≡ on (accepts q) v
  pub alike : (p q : ℕ) → IsLoyalLieutenant n c traitor p → IsLoyalLieutenant n c traitor q →
      decided (accepts p) ≡ decided (accepts q)
  pub obeyed : traitor c ≡ false → (p : ℕ) → IsLoyalLieutenant n c traitor p → decided (accepts p) ≡ order

-- States the agreement theorem: with at most m traitors among at least m + 2 generals, the loyal lieutenants agree,
-- whatever chains the traitors sign and to whomever they send them.
abbrev pub SignedAgreementHolds : Type 0
SignedAgreementHolds = (n c m order : ℕ) (traitor : ℕ → Bool) (S : Deliveries) → c < n → IsSignedBound n m traitor →
    ((g : ℕ) → g < n → traitor g ≡ true → SignsForHimself n c S g) →
    ((g : ℕ) → g < n → traitor g ≡ false → IsLoyal n c m order S g) →
    SignedAgree n c order traitor (accepted n S (suc m))
