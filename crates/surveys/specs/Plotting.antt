-- The campaign that a seed draws from a family (own).
use Rattle.std.specs.Prelude.{ℕ, zero, suc, ◌+◌, ◌-◌, ◌*◌, ◌/◌, ◌%◌, ◌==◌, nat_lt, min, Bool, true, false, cond, List, [], ◌∷◌, map, flat_map, Option, None, Some, string_bytes}
use Rattle.std.specs.List.{range_with_len}
use Rattle.surveys.specs.declared.adversary.Adversary.{Adversary}
use Rattle.surveys.specs.declared.adversary.Adversary.TheVariants.{Lies, Silent, Collude, Given}
use Rattle.surveys.specs.declared.lie.Lie.{Lie}
use Rattle.surveys.specs.declared.lie.Lie.TheVariants.{Honest, Sway, Sign, Pass}
use Rattle.surveys.specs.declared.lie.LieValue.{LieValue}
use Rattle.surveys.specs.declared.lie.LieValue.TheVariants.{Number, Parity}
use Rattle.surveys.specs.declared.manner.Manner.{Manner}
use Rattle.surveys.specs.declared.span.CountRange.{CountRange}
use Rattle.surveys.specs.declared.manner.Manner.TheVariants.{Oral, Signed}
use Rattle.surveys.specs.Draws.{draw, within}
use Rattle.surveys.specs.Family.{Family}
use Rattle.surveys.specs.Plot.{Plot, Traitor}

-- Returns the random number at index `place` of those that a seed has for general `g`. The seed's first random numbers
-- are for the generals (0), the bound (1), the traitors (2), the order (3) and the choice of the traitors (from 4 on).
-- From 32 on, each general has 32 numbers for what he says.
abbrev pub drawn_for : ℕ → ℕ → ℕ → ℕ
drawn_for seed g place = draw seed (32 + 32 * g + place)

-- Returns how many numbers a range contains, its ends included.
abbrev pub count_in : CountRange → ℕ
count_in span = span.high + 1 - span.low

-- Returns how many generals the seed's campaign has. The number is drawn at random, or consecutive seeds go through the
-- range.
abbrev pub generals_of : Family → ℕ → ℕ
generals_of f seed = within f.generals (cond f.grid seed (draw seed 0))

-- Returns the bound of the seed's campaign, which is at most 4 and at most the number of generals less 2.
abbrev pub bound_of : Family → ℕ → ℕ
bound_of f seed = min (within f.bound (cond f.grid (seed / count_in f.generals) (draw seed 1)))
    (min 4 (generals_of f seed - 2))

-- Returns the commander of a campaign with `n` generals: the family's commander, or the last general if there are not
-- enough generals.
abbrev pub commander_of : Family → ℕ → ℕ
commander_of f n = min f.commander (n - 1)

-- Returns how many traitors the seed's campaign has, at most the number of its generals.
abbrev pub count_of : Family → ℕ → ℕ
count_of f seed =
    min (within f.traitors (cond f.grid (seed / count_in f.generals / count_in f.bound) (draw seed 2))) (generals_of f seed)

-- Returns `needed` of the generals from `g` on, ascending. The third argument is the number of these generals. Each
-- choice is as likely as another (Knuth, volume 2, section 3.4.2, algorithm S).
abbrev pub chosen : ℕ → ℕ → ℕ → ℕ → List ℕ
chosen seed g zero needed = []
chosen seed g (suc more) needed =
    cond (nat_lt (draw seed (4 + g) % suc more) needed) (g ∷ chosen seed (g + 1) more (needed - 1))
    (chosen seed (g + 1) more needed)

-- Returns what a statement sends: the parity of the board's count if the traitor counts, and otherwise the order or
-- index from 0 to `v` that `drawn` selects.
abbrev pub said_by : Bool → ℕ → ℕ → LieValue
said_by true v drawn = Parity
said_by false v drawn = Number (drawn / 4 % (v + 1))

-- Returns the statement of traitor `g` to a receiver in an oral campaign. In one of four cases he sends nothing, in one
-- the order that he took, and in two another value: the parity of the board's count if `counts` is true, and otherwise
-- an order from 0 to `v`.
abbrev pub oral_lies : Bool → ℕ → ℕ → ℕ → ℕ → List Lie
oral_lies counts v g receiver drawn =
    cond (receiver == g) []
    (cond (drawn % 4 == 0) []
    (cond (drawn % 4 == 1) (Honest receiver ∷ [])
    (Sway receiver (said_by counts v drawn) ∷ [])))

-- Returns a statement of traitor `g` in a signed campaign, or none in one of four cases. The commander `c` signs an
-- order from 0 to `v`, and a lieutenant passes on the chain with index 0 or 1. If `counts` is true, the parity of the
-- board's count is this order or index.
abbrev pub signed_lies : Bool → ℕ → ℕ → ℕ → ℕ → List Lie
signed_lies counts v c g drawn =
    cond (drawn % 4 == 0) []
    (cond (g == c) (Sign (said_by counts v drawn) (drawn / 8 % 8192) ∷ [])
    (Pass (said_by counts 1 drawn) (drawn / 8 % 8192) ∷ []))

-- Returns all statements of traitor `g` if `c` commands and orders are from 0 to `v`. In an oral campaign there is at
-- most one for each other general, and in a signed one there are at most four.
abbrev pub lies_in : Manner → Bool → ℕ → ℕ → ℕ → ℕ → ℕ → List Lie
lies_in (Oral rule) counts v c seed n g = flat_map (λ r. oral_lies counts v g r (drawn_for seed g r)) (range_with_len 0 n)
lies_in Signed counts v c seed n g = flat_map (λ r. signed_lies counts v c g (drawn_for seed g r)) (range_with_len 0 4)

-- Returns the statements of traitor `g` for an adversary, if `c` commands and orders are from 0 to `v`.
abbrev pub lies_by : Adversary → Manner → ℕ → ℕ → ℕ → ℕ → ℕ → List Lie
lies_by Lies manner v c seed n g = lies_in manner false v c seed n g
lies_by Collude manner v c seed n g = lies_in manner true v c seed n g
lies_by Silent manner v c seed n g = []
lies_by (Given hex) manner v c seed n g = []

-- Checks whether the traitors of an adversary increment a count on the board.
abbrev pub do_count : Adversary → Bool
do_count Collude = true
do_count _ = false

-- Returns the bytecode of all traitors in hex, or `None` if each traitor's program is made of his statements.
abbrev pub given_in : Adversary → Option (List ℕ)
given_in (Given hex) = Some (string_bytes hex)
given_in _ = None

-- Returns traitor `g` of the campaign that a seed draws from a family, with his statements.
abbrev pub traitor_of : Family → ℕ → ℕ → ℕ → Traitor
traitor_of f seed n g = record {
  general = g;
  counts = do_count f.adversary;
  lies = lies_by f.adversary f.manner f.orders (commander_of f n) seed n g;
}

-- Returns the campaign that a seed draws from a family.
unfoldable pub plot_of : Family → ℕ → Plot
plot_of f seed =
    let n = generals_of f seed in
    record {
      generals = n;
      bound = bound_of f seed;
      commander = commander_of f n;
      order = draw seed 3 % (f.orders + 1);
      manner = f.manner;
      patience = f.patience;
      given = given_in f.adversary;
      traitors = map (traitor_of f seed n) (chosen seed 0 n (count_of f seed));
    }
