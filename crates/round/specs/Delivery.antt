-- How the code finds the orders in a round's letters while it fills the lieutenants' trees (own). No claim rests on
-- this file. Told.antt says what letters contribute to the trees.
use Rattle.std.specs.Prelude.{ℕ, suc, ◌-◌, ◌*◌, ◌<◌, ◌≤◌, ◌≡◌, true, false, List, length, take, slice_index, slice_index_or, slice_get, Option, None, Some}
use Rattle.label.specs.Labels.{on, others, labels}
use Rattle.label.specs.Oral.{Messages}
use Rattle.tree.specs.LieutenantTree.{LieutenantTree, IsCampaign, IsFilled, SameCampaign}
use Rattle.outbox.specs.Contents.{order_at}
use Rattle.outbox.specs.Orders.{orders_seen}
use Rattle.outbox.specs.Rows.{order_in}
use Rattle.outbox.specs.declared.orders.Orders.{Orders}
use Rattle.round.specs.Letters.{Letter, letter_of}
use Rattle.round.specs.Told.{AreDue, told_now, heard_also, round_of}
use Rattle.round.specs.Fronts.{IsFront, under}
use Rattle.round.specs.declared.front.LabelPrefix.{LabelPrefix}

-- States that `indices` has for each general the index of his letter, or an index past the last letter if he has none.
abbrev pub AreLetterIndices : List Letter → List ℕ → Type 0
AreLetterIndices letters indices =
    (length indices ≡ 13) × ((g : ℕ) → g < 13 → slice_get letters (slice_index indices g) ≡ letter_of letters g)

-- Returns the order that a letter sends to receiver `p` for the label of this rank. Returns `None` if there is no
-- letter or no such order.
abbrev pub order_in_letter : Option Letter → ℕ → ℕ → Option ℕ
order_in_letter None rank p = None
order_in_letter (Some l) rank p = order_at l.outbox.relay l.outbox.rows rank p

-- States that the tree is partly filled from the letters, which are of round `k`. Labels of other lengths than `k` have
-- the orders of `M`. Of the labels of length `k`, those of a rank below `i` have the orders of the letters.
pub record IsPartly (M : Messages) (letters : List Letter) (n c p k i : ℕ) (t : LieutenantTree) : Type 0 where
  pub N : Messages
  pub filled : IsFilled t N
  pub others : (w : List ℕ) → (length w ≡ k → ⊥) → N w p ≡ M w p
  pub done : (j : ℕ) (w : List ℕ) → j < i → slice_get (labels n c p k) j ≡ Some w → N w p ≡ told_now letters w p

-- States that, if `t` has the letters' orders at the labels of length `k` and rank below `i`, then `u` has them at
-- those of rank below `j`.
pub record FillsFromTo (t : LieutenantTree) (letters : List Letter) (k i j : ℕ) (u : LieutenantTree) : Type 0 where
  pub same : SameCampaign t u
  pub partly : (M : Messages) → IsPartly M letters t.generals t.commander t.general k i t →
      IsPartly M letters t.generals t.commander t.general k j u

-- Returns the lowest rank of the labels of length `k` that begin with the label `f`.
abbrev pub first_under : LieutenantTree → LabelPrefix → ℕ → ℕ
first_under t f k = slice_index f.ranks t.general * under t.generals f.size (k - f.size)

-- Returns the rank after the highest one of the labels of length `k` that begin with the label `f`.
abbrev pub past_under : LieutenantTree → LabelPrefix → ℕ → ℕ
past_under t f k = suc (slice_index f.ranks t.general) * under t.generals f.size (k - f.size)

-- States that two lists of trees have the same length, and that the relation `Are` holds between the trees at each
-- index.
pub record AreEach (Are : LieutenantTree → LieutenantTree → Type 0) (old new : List LieutenantTree) : Type 0 where
  pub count : length new ≡ length old
  pub each : (j : ℕ) (t u : LieutenantTree) → slice_get old j ≡ Some t → slice_get new j ≡ Some u → Are t u

-- States that `u` is the tree `t` after these letters are delivered.
pub record IsTold (letters : List Letter) (t u : LieutenantTree) : Type 0 where
  pub same : SameCampaign t u
  pub filled : (M : Messages) → IsFilled t M → IsFilled u (heard_also M letters)

-- States that the tree belongs to the campaign of `n` generals under commander `c`, and that the letters are of a round
-- of this campaign.
pub record IsDueIn (n c : ℕ) (letters : List Letter) (t : LieutenantTree) : Type 0 where
  pub kind : IsCampaign t
  pub generals : t.generals ≡ n
  pub commander : t.commander ≡ c
  pub due : AreDue t letters

-- States that all trees belong to the campaign of `n` generals under commander `c`, and that the letters are of a round
-- of this campaign.
abbrev pub AreDueIn : ℕ → ℕ → List Letter → List LieutenantTree → Type 0
AreDueIn n c letters trees = (j : ℕ) (t : LieutenantTree) → slice_get trees j ≡ Some t → IsDueIn n c letters t

-- States that no two trees belong to the same lieutenant.
abbrev pub AreApart : List LieutenantTree → Type 0
AreApart trees = (i j : ℕ) (t u : LieutenantTree) → slice_get trees i ≡ Some t → slice_get trees j ≡ Some u →
    t.general ≡ u.general → i ≡ j

-- States that the table has for each lieutenant the index of his tree, and for every other general an index past the
-- last tree.
pub record AreTreeIndices (trees : List LieutenantTree) (table : List ℕ) : Type 0 where
  pub long : length table ≡ 13
  pub found : (i : ℕ) (t : LieutenantTree) → slice_get trees i ≡ Some t → slice_index table t.general ≡ i
  pub only : (g : ℕ) (t : LieutenantTree) → g < 13 → slice_get trees (slice_index table g) ≡ Some t → t.general ≡ g

-- States what the code knows when it fills in the labels that begin with `f`. The label `f` is shorter than the labels
-- of the letters' round, `indices` has the index of each general's letter, and the letters are of a round of the trees'
-- campaign.
pub record IsRoute (n : ℕ) (letters : List Letter) (indices : List ℕ) (k : ℕ) (f : LabelPrefix)
    (trees : List LieutenantTree) : Type 0 where
  pub few : n ≤ 13
  pub size : k ≡ round_of letters
  pub small : k ≤ 5
  pub indexed : AreLetterIndices letters indices
  pub short : f.size < k
  pub c : ℕ
  pub w : List ℕ
  pub inside : c < n
  pub front : IsFront n c w f
  pub due : AreDueIn n c letters trees

-- The generals off a label: the first `count` elements of `generals`, each with the orders about the label in his
-- letter, in `rows`.
pub record Tellers : Type 0 where
  pub count : ℕ
  pub generals : List ℕ
  pub rows : List Orders

-- States that `t` has all generals below `x` who are off the label `f`, each with the orders about the label in his
-- letter. A general without a letter sends no orders.
pub record AreTellers (letters : List Letter) (n : ℕ) (f : LabelPrefix) (x : ℕ) (t : Tellers) : Type 0 where
  pub long : length t.generals ≡ 13
  pub wide : length t.rows ≡ 13
  pub few : t.count ≤ x
  pub names : (c : ℕ) (w : List ℕ) → IsFront n c w f → take t.count t.generals ≡ others x w
  pub rows : (i p : ℕ) (r : Orders) → i < t.count → slice_get t.rows i ≡ Some r →
      order_in p (orders_seen r) ≡ order_in_letter (letter_of letters (slice_index t.generals i))
      (slice_index f.ranks (slice_index t.generals i)) p

-- States that `rows` has the orders about a label of all generals off it, and that the tree's lieutenant is number `i`
-- of these generals.
pub record AreTellersOf (letters : List Letter) (t : LieutenantTree) (f : LabelPrefix) (i : ℕ)
    (rows : List Orders) : Type 0 where
  pub count : ℕ
  pub generals : List ℕ
  pub all : AreTellers letters t.generals f t.generals (record { count = count; generals = generals; rows = rows })
  pub within : i < count
  pub own : slice_index generals i ≡ t.general

-- States that `u` is the tree `t` after the letters' orders are entered for the labels that begin with `f`. If the
-- tree's lieutenant is on the label, the tree is unchanged.
pub record IsToldUnder (letters : List Letter) (k : ℕ) (f : LabelPrefix) (t u : LieutenantTree) : Type 0 where
  pub on : slice_index_or f.on t.general false ≡ true → u ≡ t
  pub off : slice_index_or f.on t.general false ≡ false →
      FillsFromTo t letters k (first_under t f k) (past_under t f k) u

-- States what the code knows when it fills one tree for the labels that begin with `f`. The label `f` is shorter than
-- the labels of the letters' round and does not have the tree's lieutenant, and the letters are of a round of the
-- tree's campaign.
pub record IsWalk (t : LieutenantTree) (letters : List Letter) (indices : List ℕ) (k : ℕ) (f : LabelPrefix) : Type 0 where
  pub due : AreDue t letters
  pub size : k ≡ round_of letters
  pub indexed : AreLetterIndices letters indices
  pub short : f.size < k
  pub w : List ℕ
  pub front : IsFront t.generals t.commander w f
  pub off : on w t.general ≡ false
