-- Three campaigns with too few generals (Fischer, Lynch, Merritt, "Easy impossibility proofs for distributed consensus
-- problems", Distributed Computing 1, 1986; Lynch, Distributed Algorithms, section 6.4). The generals form three
-- groups, 0, 1 and 2. Two copies of each group, a and b, form the ring 0a, 1a, 2a, 0b, 1b, 2b. In the ring everyone is
-- loyal and exchanges messages with his own group and the two adjacent ones. The commander of copy a orders 0, and that
-- of copy b orders 1. In each story two groups are loyal, and receive what two adjacent groups of the ring receive. The
-- third group lies: it sends to each loyal group what its copy adjacent to that group sends in the ring.
use Rattle.std.specs.Prelude.{ℕ, ◌+◌, ◌%◌, ◌≤◌, ◌≡◌, ◌==◌, ◌&&◌, ◌||◌, nat_lt, if◌then◌else◌, Bool, List, [], ◌∷◌, ◌++◌, bytes_eq, codes, Option, None, Some, count_by}
use Rattle.label.specs.Labels.{generals}
use Rattle.label.specs.Oral.{Messages, Agree}
use Rattle.bounds.specs.Tightness.{IsTooFew, IsAdmissible, IsIndistinguishable, IsDecisionRule}
use Rattle.bounds.specs.declared.story.Story.{Story}
use Rattle.bounds.specs.declared.story.Story.TheVariants.{First, Second, Third}

-- Returns the story with the number `1`, `2` or `3`, or None for any other word.
abbrev pub story_numbered : List ℕ → Option Story
story_numbered word =
    if bytes_eq word (codes "1") then Some First
    else if bytes_eq word (codes "2") then Some Second
    else if bytes_eq word (codes "3") then Some Third
    else None

-- Returns the group of general g. The commander c is in group 0, and the lieutenants, in ascending order, are in the
-- groups 1, 2, 0, 1, 2, 0 and so on.
unfoldable pub group_of : ℕ → ℕ → ℕ
group_of c g = if g == c then 0 else if nat_lt g c then (g + 1) % 3 else g % 3

-- Returns whether a message from group g to group h crosses from one copy of the ring to the other. It does exactly
-- if the groups are 0 and 2.
abbrev pub is_crossing : ℕ → ℕ → Bool
is_crossing g h = (g == 0 && h == 2) || (g == 2 && h == 0)

-- Returns how often an order crosses between the two copies while the generals of a list relay it.
unfoldable pub crossings : ℕ → List ℕ → ℕ
crossings c [] = 0
crossings c (x ∷ []) = 0
crossings c (x ∷ y ∷ more) = (if is_crossing (group_of c x) (group_of c y) then 1 else 0) + crossings c (y ∷ more)

-- Returns the group that lies in a story. In the second story it is the commander's group.
abbrev pub lying_group : Story → ℕ
lying_group First = 2
lying_group Second = 0
lying_group Third = 1

-- Returns whether general g is a traitor in a story: his group lies.
unfoldable pub is_traitor_in : Story → ℕ → ℕ → Bool
is_traitor_in s c g = group_of c g == lying_group s

-- Returns which copy of itself in the ring a loyal group plays in a story: 0 for a, and 1 for b.
abbrev pub copy_in : Story → ℕ → ℕ
copy_in First g = 0
copy_in Second g = 0
copy_in Third g = if g == 0 then 1 else 0

-- Returns the commander's order in a story, which is the number of the copy that his group plays.
abbrev pub story_order : Story → ℕ
story_order s = copy_in s 0

-- Returns the order that general g holds in the ring after the generals of a list have relayed it, where g is the
-- last. The order comes from the commander in the copy of g, or from the other commander if it crossed an odd number
-- of times.
unfoldable pub held_order : Story → ℕ → ℕ → List ℕ → ℕ
held_order s c g way = (copy_in s (group_of c g) + crossings c way) % 2

-- Returns the last general of a label, or 0 if it is empty.
unfoldable pub last_general : List ℕ → ℕ
last_general [] = 0
last_general (x ∷ []) = x
last_general (x ∷ y ∷ more) = last_general (y ∷ more)

-- Returns the messages of a story. A loyal general sends the order that he holds. A traitor sends each receiver the
-- order that the receiver would then hold in the ring.
unfoldable pub story_messages : Story → ℕ → Messages
story_messages s c w p =
    let g : ℕ = last_general w in
    Some (if is_traitor_in s c g then held_order s c p (w ++ p ∷ []) else held_order s c g w)

-- States that in each story at most m generals are traitors, at least one is, and all others are faithful, if there are
-- at least three generals and at most 3m. A lieutenant of group 1 cannot distinguish the first two stories, and one of
-- group 2 not the last two. The statement is the contract of a function of this crate.
pub record StoriesAreAdmissible : Type 0 where
  pub admissible : (s : Story) (n c m : ℕ) → IsTooFew n c m →
      IsAdmissible n c m (story_order s) (is_traitor_in s c) (story_messages s c)
  pub some : (s : Story) (n c m : ℕ) → IsTooFew n c m → 1 ≤ count_by (is_traitor_in s c) (generals n)
  pub first_two : (n c p : ℕ) → group_of c p ≡ 1 →
      IsIndistinguishable n c p (story_messages First c) (story_messages Second c)
  pub last_two : (n c p : ℕ) → group_of c p ≡ 2 →
      IsIndistinguishable n c p (story_messages Second c) (story_messages Third c)

-- States that every decision rule breaks IC1 or IC2 in one of the stories, if there are too few generals. The
-- statement is the contract of a function of this crate.
abbrev pub StoriesBreak : Type 0
StoriesBreak = (n c m : ℕ) (decide : ℕ → Messages → ℕ) → IsTooFew n c m → IsDecisionRule n c decide →
    (s : Story) × ¬ Agree n c (story_order s) (is_traitor_in s c) (λ p. decide p (story_messages s c))
