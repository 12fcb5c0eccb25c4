-- Alike worlds stay alike.
use Rattle.std.proofs.Common.{◌≡◌, ℕ, zero, suc, ◌-◌, List, [], ◌∷◌, ◌++◌, length, map, Bool, true, false, cond, refl, sym, ap, subst, ◌∙◌, Option, Some, None}
use Rattle.std.specs.Prelude.{filter, slice_get, slice_set, slice_index, slice_index_or, take, nat_lt, ◌==◌}
use Rattle.insn.specs.declared.insn.Insn.{Insn}
use Rattle.label.specs.Relay.{relay}
use Rattle.label.specs.Oral.{heard}
use Rattle.semantics.specs.Relay.{oral}
use Rattle.board.specs.Board.{reply, next}
use Rattle.outbox.specs.Contents.{Contents}
use Rattle.round.specs.Scenario.{Scenario, program_of, shape_of}
use Rattle.round.specs.Letters.{Letter, messages, letter_of, told_by, tells, telling}
use Rattle.round.specs.Contexts.{context_of, context_bytes, context_numbers}
use Rattle.round.specs.Activation.{started, Turn, Goes, Asks, Ended, turn}
use Rattle.world.specs.declared.event.Event.{Event}
use Rattle.world.specs.declared.event.Event.TheVariants.{Tick, Post, Close}
use Rattle.world.specs.declared.part.Progress.{Progress}
use Rattle.world.specs.declared.part.Progress.TheVariants.{Acting, Silent, Posted}
use Rattle.world.specs.Kind.{World, each, round_open, served, ticked, posting}
use Rattle.world.specs.World.{oral_kind, begins, letters_at, round_letters, closing, happen, run}
use Rattle.world.specs.KindLists.{ticks_named, wound_up, first_line, later_lines}
use Rattle.world.specs.Lists.{names_events, replayed_rounds}
use Rattle.world.specs.Chronicle.{decisions}
use Rattle.label.specs.Labels.{generals}
use Rattle.campaign_orders.specs.Orders.{will_ask, past, behind, IsRoundFrom, IsFrom}
use Rattle.campaign_orders.specs.Listing.{round_orders, orders_from, or_end, branch}
use Rattle.campaign_orders.specs.Outcomes.{oral_outcome}
use Rattle.campaign_orders.specs.Merging.{TellAlike, RoundsAlike, AreAlike, AlikeWorldsGoOnAlike, AlikeWorldsHaveOneList}

tell-append : (a b c d : List Letter) → TellAlike a b → TellAlike c d → TellAlike (a ++ c) (b ++ d)
tell-append [] [] c d h k = k
tell-append [] (m ∷ b) c d h k = absurd h
tell-append (l ∷ a) [] c d h k = absurd h
tell-append (l ∷ a) (m ∷ b) c d h k = (h.0, h.1, tell-append a b c d h.2 k)

rounds-append : (a b : List (List Letter)) (row other : List Letter) → RoundsAlike a b → TellAlike row other → RoundsAlike (a ++ row ∷ []) (b ++ other ∷ [])
rounds-append [] [] row other h k = (k, tt)
rounds-append [] (y ∷ b) row other h k = absurd h
rounds-append (x ∷ a) [] row other h k = absurd h
rounds-append (x ∷ a) (y ∷ b) row other h k = (h.0, rounds-append a b row other h.1 k)

rounds_long : (a b : List (List Letter)) → RoundsAlike a b → length a ≡ length b
rounds_long [] [] h = refl
rounds_long [] (y ∷ b) h = absurd h
rounds_long (x ∷ a) [] h = absurd h
rounds_long (x ∷ a) (y ∷ b) h = ap suc (rounds_long a b h.1)

row_at : (a b : List (List Letter)) (k : ℕ) → RoundsAlike a b → TellAlike (slice_index_or a k []) (slice_index_or b k [])
row_at [] [] k h = tt
row_at [] (y ∷ b) k h = absurd h
row_at (x ∷ a) [] k h = absurd h
row_at (x ∷ a) (y ∷ b) zero h = h.0
row_at (x ∷ a) (y ∷ b) (suc k) h = row_at a b k h.1

-- Which order a general has sent to whom.
told_alike : (a b : List Letter) (g : ℕ) (u : List ℕ) (p : ℕ) → TellAlike a b → told_by (letter_of a g) u p ≡ told_by (letter_of b g) u p
told_alike [] [] g u p h = refl
told_alike [] (m ∷ b) g u p h = absurd h
told_alike (l ∷ a) [] g u p h = absurd h
told_alike (l ∷ a) (m ∷ b) g u p h = by (told_alike a b g u p h.2) (l.general == g) (m.general == g) (ap (λ (n : ℕ). n == g) h.0) refl refl
  where
    by : told_by (letter_of a g) u p ≡ told_by (letter_of b g) u p → (c d : Bool) → l.general == g ≡ m.general == g → l.general == g ≡ c → m.general == g ≡ d → told_by (letter_of (l ∷ a) g) u p ≡ told_by (letter_of (m ∷ b) g) u p
    by again true true e x y = rw x (rw y (ap (λ (o : Contents). tells o u p) h.1))
    by again false false e x y = rw x (rw y again)
    by again true false e x y = absurd (let f : true ≡ false = sym x ∙ (e ∙ y) in cc)
    by again false true e x y = absurd (let f : false ≡ true = sym x ∙ (e ∙ y) in cc)

messages_at : (a b : List (List Letter)) → RoundsAlike a b → (u : List ℕ) (p : ℕ) → messages a u p ≡ messages b u p
unfolding messages
messages_at a b h u p =
    let last = length u - 1 in
    told_alike (slice_index_or a last []) (slice_index_or b last []) (slice_index u last) (take last u) p (row_at a b last h)

pub messages_alike : (a b : List (List Letter)) → RoundsAlike a b → messages a ≡ messages b
messages_alike a b h = λ i u p. messages_at a b h u p i

context_alike : (s : Scenario) (a b : List (List Letter)) (g : ℕ) → RoundsAlike a b → context_of s a g ≡ context_of s b g
context_alike s a b g h =
    let m : messages a ≡ messages b = messages_alike a b h in
    let n : length a ≡ length b = rounds_long a b h in
    λ i. context_bytes (context_numbers (shape_of s g (suc (n i))) s.bound (map (λ u. heard (m i) s.order u g) (relay (shape_of s g (suc (n i))))))

begins_alike : (s : Scenario) (a b : List (List Letter)) (g : ℕ) (o : Option (List Insn)) → RoundsAlike a b → begins s a g o ≡ begins s b g o
begins_alike s a b g None h = refl
begins_alike s a b g (Some program) h =
    let c : context_of s a g ≡ context_of s b g = context_alike s a b g h in
    let n : length a ≡ length b = rounds_long a b h in
    λ i. Acting (started s.patience program (c i) (oral (shape_of s g (suc (n i)))))

-- The letters that a close makes.
letter_alike : (w v : World) (g : ℕ) (o : Option Progress) → AreAlike w v → TellAlike (letters_at w g o) (letters_at v g o)
letter_alike w v g None h = tt
letter_alike w v g (Some (Acting a)) h =
    let n : length w.closed ≡ length v.closed = rounds_long w.closed v.closed h.closed in
    (refl, (λ i. record { relay = oral (shape_of (h.scenario i) g (suc (n i))); rows = a.state.outbox; entries = a.state.entries }), tt)
letter_alike w v g (Some Silent) h = tt
letter_alike w v g (Some Posted) h =
    let n : length w.closed ≡ length v.closed = rounds_long w.closed v.closed h.closed in
    let m : messages w.closed ≡ messages v.closed = messages_alike w.closed v.closed h.closed in
    (refl, (λ i. telling (shape_of (h.scenario i) g (suc (n i))) (λ u. heard (m i) (h.scenario i).order u g)), tt)

letters_alike : (w v : World) (n : ℕ) → AreAlike w v → TellAlike (each n (λ g. letters_at w g (slice_get w.parts g))) (each n (λ g. letters_at v g (slice_get v.parts g)))
letters_alike w v zero h = tt
letters_alike w v (suc n) h =
    let A : List Progress → Type 0 = λ ps. TellAlike (letters_at w n (slice_get w.parts n)) (letters_at v n (slice_get ps n)) in
    tell-append (each n (λ g. letters_at w g (slice_get w.parts g))) (each n (λ g. letters_at v g (slice_get v.parts g))) (letters_at w n (slice_get w.parts n)) (letters_at v n (slice_get v.parts n))
    (letters_alike w v n h) (subst A h.parts (letter_alike w v n (slice_get w.parts n) h))

close_alike : (w v : World) → AreAlike w v → AreAlike (closing w) (closing v)
close_alike w v h =
    let rows : TellAlike (round_letters w) (round_letters v) =
    (let A : Scenario → Type 0 = λ t. TellAlike (round_letters w) (each t.generals (λ g. letters_at v g (slice_get v.parts g))) in subst A h.scenario (letters_alike w v w.scenario.generals h)) in
    let closed = rounds-append w.closed v.closed (round_letters w) (round_letters v) h.closed rows in
    let a = w.closed ++ round_letters w ∷ [] in
    let b = v.closed ++ round_letters v ∷ [] in
    let n : length a ≡ length b = rounds_long a b closed in
    let one : cond (round_open w.scenario a) (each w.scenario.generals (λ g. begins w.scenario a g (program_of w.scenario g) ∷ [])) []
    ≡ cond (round_open w.scenario b) (each w.scenario.generals (λ g. begins w.scenario b g (program_of w.scenario g) ∷ [])) [] =
    (λ i. cond (nat_lt (n i) (suc w.scenario.bound)) (each w.scenario.generals (λ g. begins_alike w.scenario a b g (program_of w.scenario g) closed i ∷ [])) []) in
    let two = ap (λ (s : Scenario). cond (round_open s b) (each s.generals (λ g. begins s b g (program_of s g) ∷ [])) []) h.scenario in
    record { scenario = h.scenario; words = h.words; parts = one ∙ two; closed = closed }

served_alike : (w v : World) (g : ℕ) (o : Turn) → AreAlike w v → AreAlike (served w g o) (served v g o)
served_alike w v g (Goes a) h = record { scenario = h.scenario; words = h.words; parts = ap (λ ps. slice_set ps g (Acting a)) h.parts; closed = h.closed }
served_alike w v g (Asks q f) h =
    record { scenario = h.scenario; words = ap (λ ws. next ws q) h.words; parts = (λ i. slice_set (h.parts i) g (Acting (f (reply (h.words i) q)))); closed = h.closed }
served_alike w v g Ended h = h

ticked_alike : (w v : World) (g : ℕ) (o : Option Progress) → AreAlike w v → AreAlike (ticked w g o) (ticked v g o)
ticked_alike w v g None h = h
ticked_alike w v g (Some (Acting a)) h = served_alike w v g (turn a) h
ticked_alike w v g (Some Silent) h = h
ticked_alike w v g (Some Posted) h = h

posting_alike : (w v : World) (g : ℕ) (o : Option Progress) → AreAlike w v → AreAlike (posting w g o) (posting v g o)
posting_alike w v g None h = h
posting_alike w v g (Some (Acting a)) h = h
posting_alike w v g (Some Silent) h = record { scenario = h.scenario; words = h.words; parts = ap (λ ps. slice_set ps g Posted) h.parts; closed = h.closed }
posting_alike w v g (Some Posted) h = h

closed_alike : (w v : World) (b : Bool) → AreAlike w v → AreAlike (cond b (closing w) w) (cond b (closing v) v)
closed_alike w v true h = close_alike w v h
closed_alike w v false h = h

happen_alike : (w v : World) (e : Event) → AreAlike w v → AreAlike (happen w e) (happen v e)
happen_alike w v (Tick g) h = (let A : Option Progress → Type 0 = λ o. AreAlike (ticked w g (slice_get w.parts g)) (ticked v g o) in subst A (ap (λ ps. slice_get ps g) h.parts) (ticked_alike w v g (slice_get w.parts g) h))
happen_alike w v (Post g) h = (let A : Option Progress → Type 0 = λ o. AreAlike (posting w g (slice_get w.parts g)) (posting v g o) in subst A (ap (λ ps. slice_get ps g) h.parts) (posting_alike w v g (slice_get w.parts g) h))
happen_alike w v Close h =
    let n : length w.closed ≡ length v.closed = rounds_long w.closed v.closed h.closed in
    let e : round_open w.scenario w.closed ≡ round_open v.scenario v.closed = (λ i. nat_lt (n i) (suc (h.scenario i).bound)) in
    let A : Bool → Type 0 = λ b. AreAlike (cond (round_open w.scenario w.closed) (closing w) w) (cond b (closing v) v) in
    subst A e (closed_alike w v (round_open w.scenario w.closed) h)

pub run_alike : (events : List Event) (w v : World) → AreAlike w v → AreAlike (run w events) (run v events)
run_alike [] w v h = h
run_alike (e ∷ events) w v h = run_alike events (happen w e) (happen v e) (happen_alike w v e h)

ticks_alike : (w v : World) (g : ℕ) → AreAlike w v → ticks_named g (slice_get w.parts g) ≡ ticks_named g (slice_get v.parts g)
ticks_alike w v g h = ap (λ (ps : List Progress). ticks_named g (slice_get ps g)) h.parts

pub past_alike : (w v : World) (g : ℕ) → AreAlike w v → AreAlike (past oral_kind w g) (past oral_kind v g)
past_alike w v g h =
    let A : List Event → Type 0 = λ es. AreAlike (past oral_kind w g) (run v es) in
    subst A (ticks_alike w v g h) (run_alike (ticks_named g (slice_get w.parts g)) w v h)

pub round_alike : (names : List ℕ) (w v : World) → AreAlike w v → IsRoundFrom oral_kind w names → IsRoundFrom oral_kind v names
round_alike [] w v h r = λ g. ap (λ (ps : List Progress). will_ask (slice_get ps g)) (sym h.parts) ∙ r g
round_alike (g ∷ names) w v h r = (ap (λ (ps : List Progress). will_ask (slice_get ps g)) (sym h.parts) ∙ r.0, round_alike names (past oral_kind w g) (past oral_kind v g) (past_alike w v g h) r.1)

names_alike : (names : List ℕ) (w v : World) → AreAlike w v → names_events w names ≡ names_events v names
names_alike [] w v h = refl
names_alike (g ∷ names) w v h = λ i. ticks_alike w v g h i ++ names_alike names (past oral_kind w g) (past oral_kind v g) (past_alike w v g h) i

round_events : (names : List ℕ) (w v : World) → AreAlike w v → names_events w names ++ wound_up w.scenario ≡ names_events v names ++ wound_up v.scenario
round_events names w v h = λ i. names_alike names w v h i ++ wound_up (h.scenario i)

pub behind_alike : (names : List ℕ) (w v : World) → AreAlike w v → AreAlike (run w (names_events w names ++ wound_up w.scenario)) (run v (names_events v names ++ wound_up v.scenario))
behind_alike names w v h =
    let es = names_events w names ++ wound_up w.scenario in
    let A : List Event → Type 0 = λ fs. AreAlike (run w es) (run v fs) in
    subst A (round_events names w v h) (run_alike es w v h)

pub from_alike : (k : ℕ) (order : List (List ℕ)) (w v : World) → AreAlike w v → IsFrom oral_kind w k order → IsFrom oral_kind v k order
from_alike zero order w v h f = f
from_alike (suc k) [] w v h f = absurd f
from_alike (suc k) (names ∷ order) w v h f =
    (round_alike names w v h f.0, from_alike k order (run w (names_events w names ++ wound_up w.scenario)) (run v (names_events v names ++ wound_up v.scenario)) (behind_alike names w v h) f.1)

rounds_alike : (k : ℕ) (order : List (List ℕ)) (w v : World) → AreAlike w v → replayed_rounds w k order ≡ replayed_rounds v k order
rounds_alike zero order w v h = refl
rounds_alike (suc k) order w v h =
    λ i. round_events (first_line order) w v h i
    ++ rounds_alike k (later_lines order) (run w (names_events w (first_line order) ++ wound_up w.scenario)) (run v (names_events v (first_line order) ++ wound_up v.scenario)) (behind_alike (first_line order) w v h) i

outcome_alike : (k : ℕ) (order : List (List ℕ)) (w v : World) → AreAlike w v → oral_outcome (run w (replayed_rounds w k order)) ≡ oral_outcome (run v (replayed_rounds v k order))
outcome_alike k order w v h =
    let es = replayed_rounds w k order in
    let a = run_alike es w v h in
    let m : messages (run w es).closed ≡ messages (run v es).closed = messages_alike (run w es).closed (run v es).closed a.closed in
    (λ i. decisions (a.scenario i) (m i)) ∙ ap (λ (fs : List Event). oral_outcome (run v fs)) (rounds_alike k order w v h)

pub proved_alike : AlikeWorldsGoOnAlike
proved_alike = record { runs = run_alike; rounds = round_alike; orders = from_alike; outcomes = outcome_alike }

pub round_lists : (k : ℕ) (w v : World) → AreAlike w v → round_orders oral_kind k w ≡ round_orders oral_kind k v
round_lists zero w v h = ap (λ (ps : List Progress). or_end (filter (λ g. will_ask (slice_get ps g)) (generals (length ps))) (λ g. [])) h.parts
round_lists (suc k) w v h =
    λ i. or_end (filter (λ g. will_ask (slice_get (h.parts i) g)) (generals (length (h.parts i)))) (λ g. round_lists k (past oral_kind w g) (past oral_kind v g) (past_alike w v g h) i)

all_lists : (most k : ℕ) (w v : World) → AreAlike w v → orders_from oral_kind most w k ≡ orders_from oral_kind most v k
all_lists most zero w v h = refl
all_lists most (suc k) w v h =
    λ i. branch (round_lists most w v h i) (λ names. all_lists most k (behind oral_kind w names) (behind oral_kind v names) (behind_alike names w v h) i)

pub proved_lists : AlikeWorldsHaveOneList
proved_lists = record { round = round_lists; all = all_lists }
