-- The lieutenants' trees, filled from the letters of closed rounds (own; Lynch, Distributed Algorithms, section 6.2).
use Rattle.std.specs.Prelude.{ℕ, ◌+◌, ◌-◌, ◌≡◌, ◌≢◌, ◌<◌, ◌==◌, nat_lt, if◌then◌else◌, cond, List, [], ◌∷◌, length, take, slice_index, slice_get, Option, Some}
use Rattle.label.specs.Oral.{Messages}
use Rattle.tree.specs.LieutenantTree.{LieutenantTree, IsFilled}
use Rattle.round.specs.Scenario.{Scenario}
use Rattle.round.specs.Letters.{Letter, messages, told_by, letter_of}

-- States that this is the tree of lieutenant `g` of the campaign, filled from the letters of these rounds.
pub record IsTreeOf (s : Scenario) (before : List (List Letter)) (g : ℕ) (t : LieutenantTree) : Type 0 where
  pub generals : t.generals ≡ s.generals
  pub bound : t.bound ≡ s.bound
  pub commander : t.commander ≡ s.commander
  pub general : t.general ≡ g
  pub within : g < s.generals
  pub lieutenant : g ≢ s.commander
  pub filled : IsFilled t (messages before)

-- Returns the order that the letters of one round send to `p` for the label `w`. For the label `0.2`, for example, it
-- is what general 2's letter says about the label `0`.
abbrev pub told_now : List Letter → List ℕ → ℕ → Option ℕ
told_now letters w p = let last = length w - 1 in told_by (letter_of letters (slice_index w last)) (take last w) p

-- Returns the round that the first of these letters names, or 0 if there are no letters.
abbrev pub round_of : List Letter → ℕ
round_of [] = 0
round_of (l ∷ letters) = l.round

-- Returns the message function `M` after these letters are delivered. It changes only for labels whose length is the
-- number of the letters' round.
unfoldable pub heard_also : Messages → List Letter → Messages
heard_also M letters w p = cond (length w == round_of letters) (told_now letters w p) (M w p)

-- States that the letters belong to one round of the campaign of `n` generals under commander `c`.
abbrev pub AreOfCampaign : ℕ → ℕ → List Letter → Type 0
AreOfCampaign n c letters = (i : ℕ) (l : Letter) → slice_get letters i ≡ Some l →
    l.outbox.relay.shape ≡ record { generals = n; commander = c; general = l.general; round = round_of letters }

-- States that the letters belong to one round of the tree's campaign.
pub record AreDue (t : LieutenantTree) (given : List Letter) : Type 0 where
  pub round : round_of given < t.bound + 2
  pub letters : AreOfCampaign t.generals t.commander given

-- What the lieutenants have received: the number of delivered rounds, and a tree for each lieutenant, ascending.
pub record ToldSeen : Type 0 where
  pub rounds : ℕ
  pub trees : List LieutenantTree

-- Returns the lieutenant at index `i`, counted from 0, of the lieutenants under this commander, ascending.
abbrev pub lieutenant_at : ℕ → ℕ → ℕ
lieutenant_at commander i = if nat_lt i commander then i else i + 1

-- States that `h` is what the lieutenants of the campaign have received from the letters of these rounds.
pub record WasTold (s : Scenario) (before : List (List Letter)) (h : ToldSeen) : Type 0 where
  pub rounds : h.rounds ≡ length before
  pub count : length h.trees + 1 ≡ s.generals
  pub trees : (i : ℕ) (t : LieutenantTree) → slice_get h.trees i ≡ Some t →
      IsTreeOf s before (lieutenant_at s.commander i) t
