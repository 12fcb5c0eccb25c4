-- A chain of m + 1 traitors who divide the loyal generals, however many these are. The statement is the contract of a
-- function of this crate.
use Rattle.std.specs.Prelude.{ℕ, suc, ◌+◌, ◌*◌, ◌/◌, ◌<◌, ◌≤◌, ◌≡◌, ◌==◌, true, false, List, [], ◌∷◌, Some, length, take, count_by, if◌then◌else◌}
use Rattle.combine.specs.Rule.{majority}
use Rattle.label.specs.Labels.{on, generals, others}
use Rattle.label.specs.Oral.{Messages, IsLabel, om, IsFaithful, Agree}

-- Returns the order that a traitor of the chain sends to general p, if the traitors `later` come after him on the
-- chain. He sends 1 to some loyal generals and 0 to everyone else. Those who get 1 are the first in the list of loyal
-- generals. Their number is half the number of loyal generals and later traitors together.
unfoldable pub split_order : List ℕ → List ℕ → ℕ → ℕ
split_order loyal later p = if on (take ((length loyal + length later) / 2) loyal) p then 1 else 0

-- Returns the order that the last general of a label sends to general p. If the label's generals are the first of the
-- chain, he is a traitor and divides the loyal generals. Otherwise he relays the order that was sent to the first
-- general of the label who is not the next of the chain.
unfoldable pub chain_order : List ℕ → List ℕ → List ℕ → ℕ → ℕ
chain_order loyal chain [] p = split_order loyal chain p
chain_order loyal [] (x ∷ xs) p = split_order loyal [] x
chain_order loyal (t ∷ later) (x ∷ xs) p =
    if x == t then chain_order loyal later xs p else split_order loyal (t ∷ later) x

-- Returns the messages among n generals if the generals on the chain are traitors, who divide the loyal generals.
unfoldable pub division : ℕ → List ℕ → Messages
division n chain w p = Some (chain_order (others n chain) chain w p)

-- States that a list is a chain of m + 1 traitors, the commander first, among at least 2m generals. At least two
-- generals are loyal.
pub record IsTraitorChain (n c m : ℕ) (chain : List ℕ) : Type 0 where
  pub label : IsLabel n c chain
  pub long : length chain ≡ suc m
  pub half : 2 * m ≤ n
  pub two : m + 3 ≤ n

-- States that such a division breaks IC1: the loyal generals are faithful, but they do not agree. If there are enough
-- generals, such a chain exists, and it has exactly m + 1 generals.
pub record DivisionBreaks : Type 0 where
  pub faithful : (n c rounds order g : ℕ) (chain : List ℕ) → on chain c ≡ true → on chain g ≡ false →
      IsFaithful n c rounds order (division n chain) g
  pub broken : (n c m order : ℕ) (chain : List ℕ) → IsTraitorChain n c m chain →
      ¬ Agree n c order (on chain) (om majority n (division n chain) m (c ∷ []))
  pub exists : (n c m : ℕ) → c < n → 2 * m ≤ n → m + 3 ≤ n → (chain : List ℕ) × IsTraitorChain n c m chain
  pub count : (n c m : ℕ) (chain : List ℕ) → IsTraitorChain n c m chain → count_by (on chain) (generals n) ≡ suc m
