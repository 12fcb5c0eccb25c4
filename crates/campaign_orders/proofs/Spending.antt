-- How long the text of a schedule can be. Each access takes at least two steps, except for a general's first in a
-- round.
use Rattle.std.proofs.Common.{◌≡◌, ◌≢◌, ℕ, zero, suc, ◌+◌, ◌*◌, ◌<◌, ◌≤◌, List, [], ◌∷◌, ◌++◌, length, set, get_or, Bool, true, false, cond, refl, sym, ap, subst, ◌∙◌, ◌⊎◌, inl, inr, ⊎_elim, Option, Some, None, arith, All, length-append}
use Rattle.std.specs.Prelude.{slice_get, replicate, decimal, sum_by, ◌==◌}
use Rattle.std.specs.List.{flat_map}
use Rattle.std.proofs.lemmas.Bool.{cases_lt}
use Rattle.std.proofs.lemmas.Bool.Decides.{eqb_tells}
use Rattle.std.proofs.lemmas.Fmt.{length-decimal-le}
use Rattle.std.proofs.lemmas.List.Elements.{All-set}
use Rattle.std.proofs.lemmas.List.Sums.{sum_by-set}
use Rattle.insn.specs.declared.insn.Insn.{Insn}
use Rattle.board.specs.Board.{IsBoard, reply}
use Rattle.board.proofs.Serving.{reply_fits}
use Rattle.semantics.specs.Relay.{Relay}
use Rattle.semantics.specs.declared.request.Request.{Request}
use Rattle.semantics.specs.declared.request.Request.TheVariants.{Copy}
use Rattle.semantics.specs.declared.value.Value.TheVariants.{Unset}
use Rattle.semantics.specs.Call.{resumed}
use Rattle.semantics.specs.Execution.{step}
use Rattle.semantics.specs.State.{State, Outcome, Next, Ask, Exit, Trap, value_at}
use Rattle.semantics.proofs.Walk.{changed_walk, step_walk, unset_walk}
use Rattle.round.specs.Activation.{Activation, Turn, Goes, Asks, Ended, has_ended, turn, turned}
use Rattle.round.specs.Scenario.{Scenario, program_of}
use Rattle.round.proofs.Going.{over_ended, turn_within}
use Rattle.world.specs.declared.event.Event.{Event}
use Rattle.world.specs.declared.event.Event.TheVariants.{Tick}
use Rattle.world.specs.declared.part.Progress.{Progress}
use Rattle.world.specs.declared.part.Progress.TheVariants.{Acting, Silent, Posted}
use Rattle.world.specs.declared.schedule.Repeat.{Repeat}
use Rattle.world.specs.Campaigns.{IsCampaign}
use Rattle.world.specs.Kind.{Kind, World, opening, run, served}
use Rattle.world.specs.KindLists.{further_turns, names_events, ticks_named, until_access, wound_up}
use Rattle.world.proofs.Complete.{Within, WithinAfter, due_within, turn_left}
use Rattle.world.proofs.Lasting.{named_moves}
use Rattle.world.proofs.Listing.{set-here}
use Rattle.world.proofs.Moves.{moves_board, run-append}
use Rattle.world.proofs.Replays.{tick_is}
use Rattle.world.proofs.Untrapped.{held}
use Rattle.campaign_orders.specs.Ahead.{AsksNothing}
use Rattle.campaign_orders.specs.Orders.{asks_or, asks_within, behind, past, will_ask}
use Rattle.campaign_orders.specs.Schedules.{entries_from, schedule_from}
use Rattle.campaign_orders.specs.Text.{entry_text, line_text, schedule_text}
use Rattle.campaign_orders.specs.Walks.{AreWalks, IsWalk}
use Rattle.campaign_orders.proofs.Succeeding.{past_stays}
use Rattle.campaign_orders.proofs.Walking.{within_zero}

-- ---- behind an answer r1 is unset, and so the next turn asks nothing

abbrev AsksNot : Outcome → Type 0
AsksNot (Ask request s) = ⊥
AsksNot _ = Unit {0}

step_not : (program : List Insn) (context : List ℕ) (relay : Relay) (s : State) → value_at s.registers 1 ≡ Unset → AsksNot (step program context relay s)
step_not program context relay s e =
    step_walk program context relay s AsksNot
    (record {
      trapped = λ cause. tt;
      set = λ dst unit value other. tt;
      moved = λ unit. tt;
      exits = λ n. tt;
      stores = λ size base offset value. changed_walk s AsksNot (λ cause. tt) (λ cells. tt) _;
    })
    (unset_walk context relay s AsksNot e (λ cause. tt))

resumed_unset : (request : Request) (words : List ℕ) (s : State) → value_at (resumed request words s).registers 1 ≡ Unset
resumed_unset (Copy span) words s = refl
resumed_unset request words s = refl

turned_not : (a : Activation) (o : Outcome) → AsksNot o → AsksNothing (turned a o)
turned_not a (Next s) h = tt
turned_not a (Ask request s) h = absurd h
turned_not a (Exit r0 s) h = tt
turned_not a (Trap cause) h = tt

turn_not : (a : Activation) → value_at a.state.registers 1 ≡ Unset → AsksNothing (turn a)
turn_not a e = by (has_ended a)
  where
    by : (b : Bool) → AsksNothing (cond b Ended (turned a (step a.program a.context a.relay a.state)))
    by true = tt
    by false = turned_not a (step a.program a.context a.relay a.state) (step_not a.program a.context a.relay a.state e)

abbrev IsThenQuiet : Turn → Type 0
IsThenQuiet (Asks request f) = (answer : List ℕ) → AsksNothing (turn (f answer))
IsThenQuiet _ = Unit {0}

turned_then : (a : Activation) (o : Outcome) → IsThenQuiet (turned a o)
turned_then a (Next s) = tt
turned_then a (Ask request s) = λ answer. turn_not (record a { state = resumed request answer s }) (resumed_unset request answer s)
turned_then a (Exit r0 s) = tt
turned_then a (Trap cause) = tt

then_quiet : (a : Activation) → IsThenQuiet (turn a)
then_quiet a = by (has_ended a)
  where
    by : (b : Bool) → IsThenQuiet (cond b Ended (turned a (step a.program a.context a.relay a.state)))
    by true = tt
    by false = turned_then a (step a.program a.context a.relay a.state)

-- ---- so an access takes a step, and two where the turn before asked

some_turns : (k : ℕ) (o : Turn) → asks_or (asks_within k) o ≡ true → 1 ≤ further_turns (until_access k) o
some_turns k (Goes b) will = omega arith
some_turns k (Asks q f) will = omega arith
some_turns k Ended will = absurd (let f : false ≡ true = will in cc)

some_steps : (k : ℕ) (a : Activation) → asks_within k a ≡ true → 1 ≤ until_access k a
some_steps zero a will = absurd (let f : false ≡ true = will in cc)
some_steps (suc k) a will = some_turns k (turn a) will

two_turns : (k : ℕ) (o : Turn) → AsksNothing o → asks_or (asks_within k) o ≡ true → 2 ≤ further_turns (until_access k) o
two_turns k (Goes b) quiet will = (let one = some_steps k b will in omega arith)
two_turns k (Asks q f) quiet will = absurd quiet
two_turns k Ended quiet will = absurd (let f : false ≡ true = will in cc)

two_steps : (k : ℕ) (a : Activation) → AsksNothing (turn a) → asks_within k a ≡ true → 2 ≤ until_access k a
two_steps zero a quiet will = absurd (let f : false ≡ true = will in cc)
two_steps (suc k) a quiet will = two_turns k (turn a) quiet will

-- ---- an entry's bytes

decimal_few : (t : ℕ) → t ≤ 4097 → (length (decimal t) ≤ 1) ⊎ ((10 ≤ t) × (length (decimal t) ≤ 4))
decimal_few t few = ⊎_elim (λ (l : t < 10). inl (length-decimal-le 1 t (omega arith) (omega arith) (omega arith))) (λ (l : 10 ≤ t). inr (l, length-decimal-le 4 t (omega arith) (omega arith) (omega arith))) (cases_lt t 10)

entry_long : (g t : ℕ) → g ≤ 12 → length (entry_text (record { general = g; times = t })) ≤ 4 + length (decimal t)
entry_long g t low =
    let a : length (decimal g) ≤ 2 = length-decimal-le 2 g (omega arith) (omega arith) (omega arith) in
    let c = length-append ((32 ∷ []) ++ decimal g ++ (42 ∷ [])) (decimal t) in
    let d = length-append ((32 ∷ []) ++ decimal g) (42 ∷ []) in
    omega arith

entry_first : (g t : ℕ) → g ≤ 12 → t ≤ 4097 → 1 ≤ t → 2 * length (entry_text (record { general = g; times = t })) ≤ 5 * (t + 1)
entry_first g t low few some =
    let e = entry_long g t low in
    ⊎_elim (λ (l : length (decimal t) ≤ 1). omega arith) (λ (l : (10 ≤ t) × (length (decimal t) ≤ 4)). (let m = l.0 in let n = l.1 in omega arith)) (decimal_few t few)

entry_later : (g t : ℕ) → g ≤ 12 → t ≤ 4097 → 2 ≤ t → 2 * length (entry_text (record { general = g; times = t })) ≤ 5 * t
entry_later g t low few some =
    let e = entry_long g t low in
    ⊎_elim (λ (l : length (decimal t) ≤ 1). omega arith) (λ (l : (10 ≤ t) × (length (decimal t) ≤ 4)). (let m = l.0 in let n = l.1 in omega arith)) (decimal_few t few)

-- ---- the turns that are left, and one more for who has not asked yet

at_set : (ps : List ℕ) (k v : ℕ) → k < length ps → get_or (set ps k v) k 0 ≡ v
at_set [] k v lt = absurd (omega arith)
at_set (p ∷ ps) zero v lt = refl
at_set (p ∷ ps) (suc k) v lt = at_set ps k v (omega arith)

off_set : (ps : List ℕ) (k h v : ℕ) → h ≢ k → get_or (set ps k v) h 0 ≡ get_or ps h 0
off_set [] k h v ne = refl
off_set (p ∷ ps) zero zero v ne = absurd (ne refl)
off_set (p ∷ ps) zero (suc h) v ne = refl
off_set (p ∷ ps) (suc k) zero v ne = refl
off_set (p ∷ ps) (suc k) (suc h) v ne = off_set ps k h v (λ e. ne (ap suc e))

set_long : (ps : List ℕ) (k v : ℕ) → length (set ps k v) ≡ length ps
set_long [] k v = refl
set_long (p ∷ ps) zero v = refl
set_long (p ∷ ps) (suc k) v = ap suc (set_long ps k v)

-- Returns the most turns that a general has at the start of a round.
abbrev full : ℕ
full = 4097

abbrev total : List ℕ → ℕ
total ps = sum_by (λ (p : ℕ). p) ps

abbrev Left : ℕ → Activation → Type 0
Left p a = ((n : ℕ) × (p ≡ suc n) × Within n a) ⊎ (Within p a × AsksNothing (turn a))

record HaveLeft (ps : List ℕ) (w : World) : Type 0 where
  board : IsBoard w.words
  most : length ps ≤ 13
  few : All (λ (p : ℕ). p ≤ 4097) ps
  left : (g : ℕ) (a : Activation) → slice_get w.parts g ≡ Some (Acting a) → (g < length ps) × Left (get_or ps g 0) a

ticks_many : (n g : ℕ) → length (replicate n (Tick g)) ≡ n
ticks_many zero g = refl
ticks_many (suc n) g = ap suc (ticks_many n g)

-- A general's turns up to his access.
record Spent (v : World) (g n t : ℕ) : Type 0 where
  b : Activation
  now : slice_get v.parts g ≡ Some (Acting b)
  rest : ℕ
  left : Within rest b
  less : rest + t ≤ n
  quiet : AsksNothing (turn b)

module _ (K : Kind) where
  spent_by : (fuel n : ℕ) (w : World) (g : ℕ) (a : Activation) → slice_get w.parts g ≡ Some (Acting a) → IsBoard w.words
      → ((v : World) (b : Activation) → slice_get v.parts g ≡ Some (Acting b) → IsBoard v.words → Within n b → asks_within fuel b ≡ true → Spent (run K v (replicate (until_access fuel b) (Tick g))) g n (until_access fuel b))
      → (o : Turn) → turn a ≡ o → WithinAfter n o → IsThenQuiet o → asks_or (asks_within fuel) o ≡ true → Spent (run K w (replicate (further_turns (until_access fuel) o) (Tick g))) g (suc n) (further_turns (until_access fuel) o)
  spent_by fuel n w g a at board again (Goes b) e h quiet will =
      let v = served w g (Goes b) in
      let c = again v b (set-here w.parts g (Acting b) (Acting a) at) board h will in
      let l = c.less in
      let here : Spent (run K v (replicate (until_access fuel b) (Tick g))) g (suc n) (suc (until_access fuel b)) = record { b = c.b; now = c.now; rest = c.rest; left = c.left; less = omega arith; quiet = c.quiet } in
      subst (λ (u : World). Spent (run K u (replicate (until_access fuel b) (Tick g))) g (suc n) (suc (until_access fuel b))) (sym (tick_is K w g a (Goes b) at e)) here
  spent_by fuel n w g a at board again (Asks q f) e h quiet will =
      let within = turn_within a q f e in
      let b = f (reply w.words q) in
      let here : Spent (served w g (Asks q f)) g (suc n) 1 =
      record { b = b; now = set-here w.parts g (Acting b) (Acting a) at; rest = n; left = h (reply w.words q) (reply_fits w.words q board within); less = omega arith; quiet = quiet (reply w.words q) } in
      subst (λ (u : World). Spent u g (suc n) 1) (sym (tick_is K w g a (Asks q f) at e)) here
  spent_by fuel n w g a at board again Ended e h quiet will = absurd (let f : false ≡ true = will in cc)

  spent : (fuel n : ℕ) (w : World) (g : ℕ) (a : Activation) → slice_get w.parts g ≡ Some (Acting a) → IsBoard w.words → Within n a → asks_within fuel a ≡ true → Spent (run K w (replicate (until_access fuel a) (Tick g))) g n (until_access fuel a)
  spent zero n w g a at board h will = absurd (let f : false ≡ true = will in cc)
  spent (suc fuel) zero w g a at board h will =
      absurd (let f : false ≡ true = sym (ap (asks_or (asks_within fuel)) (over_ended a (within_zero a h))) ∙ will in cc)
  spent (suc fuel) (suc n) w g a at board h will = spent_by fuel n w g a at board (λ v b at' board' h' will'. spent fuel n v g b at' board' h' will') (turn a) refl (turn_left n a h) (then_quiet a) will

  -- Each access uses up turns.
  record Paid (ps : List ℕ) (w v : World) (entry : Repeat) : Type 0 where
    later : List ℕ
    have : HaveLeft later v
    cost : 2 * length (entry_text entry) + 5 * total later ≤ 5 * total ps

  spent_left : (ps : List ℕ) (w v : World) (g rest : ℕ) (b : Activation) → HaveLeft ps w → IsBoard v.words → g < length ps → rest ≤ 4097 → slice_get v.parts g ≡ Some (Acting b) → Left rest b
      → ((h : ℕ) → h ≢ g → slice_get v.parts h ≡ slice_get w.parts h) → HaveLeft (set ps g rest) v
  spent_left ps w v g rest b have board lt few now left others = record {
    board = board;
    most = (let e = set_long ps g rest in let m = have.most in omega arith);
    few = All-set (λ (p : ℕ). p ≤ 4097) ps g rest few have.few;
    left = λ h x e.
        let long = set_long ps g rest in
        ⊎_elim
        (λ (q : (h == g ≡ true) × (h ≡ g)).
        let same : Some (Acting b) ≡ Some (Acting x) = sym now ∙ (ap (slice_get v.parts) (sym q.1) ∙ e) in
        let is : b ≡ x = cc in
        let i = q.1 in
        let at : get_or (set ps g rest) h 0 ≡ rest = ap (λ (k : ℕ). get_or (set ps g rest) k 0) q.1 ∙ at_set ps g rest lt in
        (omega arith, subst (λ (p : ℕ). Left p x) (sym at) (subst (λ (y : Activation). Left rest y) is left)))
        (λ (q : (h == g ≡ false) × (h ≢ g)).
        let was = have.left h x (sym (others h q.1) ∙ e) in
        let l = was.0 in
        (omega arith, subst (λ (p : ℕ). Left p x) (sym (off_set ps g h rest q.1)) was.1))
        (eqb_tells h g);
  }

  paid_acting : (ps : List ℕ) (w : World) (g : ℕ) (a : Activation) → HaveLeft ps w → slice_get w.parts g ≡ Some (Acting a) → asks_within (length a.program) a ≡ true
      → Paid ps w (run K w (ticks_named g (Some (Acting a)))) (record { general = g; times = length (ticks_named g (Some (Acting a))) })
  paid_acting ps w g a have at will =
      let k = length a.program in
      let t = until_access k a in
      let ticks = replicate t (Tick g) in
      let v = run K w ticks in
      let many : length ticks ≡ t = ticks_many t g in
      let board = moves_board K ticks w (named_moves g (Some (Acting a))) have.board in
      let l = have.left g a at in
      let lt = l.0 in
      let most = have.most in
      let p = get_or ps g 0 in
      let few : p ≤ 4097 = have.few g 0 lt in
      let others = (λ (h : ℕ) (ne : h ≢ g). past_stays K w g h (Some (Acting a)) ne) in
      let some = some_steps k a will in
      let sums = (λ (r : ℕ). sum_by-set (λ (x : ℕ). x) ps g r 0 lt) in
      ⊎_elim
      (λ (q : (n : ℕ) × (p ≡ suc n) × Within n a).
      let c = spent k q.0 w g a at have.board q.2 will in
      let less = c.less in
      let is = q.1 in
      let long : 2 * length (entry_text (record { general = g; times = t })) ≤ 5 * (t + 1) = entry_first g t (omega arith) (omega arith) some in
      let sum = sums c.rest in
      record {
        later = set ps g c.rest;
        have = spent_left ps w v g c.rest c.b have board lt (omega arith) c.now (inr (c.left, c.quiet)) others;
        cost = subst (λ (n : ℕ). 2 * length (entry_text (record { general = g; times = n })) + 5 * total (set ps g c.rest) ≤ 5 * total ps) (sym many) (omega arith);
      })
      (λ (q : Within p a × AsksNothing (turn a)).
      let c = spent k p w g a at have.board q.0 will in
      let less = c.less in
      let two = two_steps k a q.1 will in
      let long : 2 * length (entry_text (record { general = g; times = t })) ≤ 5 * t = entry_later g t (omega arith) (omega arith) two in
      let sum = sums c.rest in
      record {
        later = set ps g c.rest;
        have = spent_left ps w v g c.rest c.b have board lt (omega arith) c.now (inr (c.left, c.quiet)) others;
        cost = subst (λ (n : ℕ). 2 * length (entry_text (record { general = g; times = n })) + 5 * total (set ps g c.rest) ≤ 5 * total ps) (sym many) (omega arith);
      })
      l.1

  paid : (ps : List ℕ) (w : World) (g : ℕ) (o : Option Progress) → HaveLeft ps w → slice_get w.parts g ≡ o → will_ask o ≡ true → Paid ps w (run K w (ticks_named g o)) (record { general = g; times = length (ticks_named g o) })
  paid ps w g None have at will = absurd (let f : false ≡ true = will in cc)
  paid ps w g (Some (Acting a)) have at will = paid_acting ps w g a have at will
  paid ps w g (Some Silent) have at will = absurd (let f : false ≡ true = will in cc)
  paid ps w g (Some Posted) have at will = absurd (let f : false ≡ true = will in cc)

  entries_cost : (names : List ℕ) (ps : List ℕ) (w : World) → HaveLeft ps w → IsWalk K w names → 2 * length (flat_map entry_text (entries_from K w names)) ≤ 5 * total ps
  entries_cost [] ps w have walk = omega arith
  entries_cost (g ∷ names) ps w have walk =
      let o = slice_get w.parts g in
      let r : Repeat = record { general = g; times = length (ticks_named g o) } in
      let one = paid ps w g o have refl walk.0 in
      let cost = one.cost in
      let more = entries_cost names one.later (past K w g) one.have walk.1 in
      let c = length-append (entry_text r) (flat_map entry_text (entries_from K (past K w g) names)) in
      omega arith

  line_long : (line : List Repeat) → length (line_text line) ≤ length (flat_map entry_text line) + 1
  line_long [] = omega arith
  line_long (r ∷ line) =
      let D = decimal r.general in
      let T = decimal r.times in
      let F = flat_map entry_text line in
      let p : List ℕ = D ++ (42 ∷ []) ++ T in
      let a = length-append (p ++ F) (10 ∷ []) in
      let b = length-append p F in
      let c = length-append (D ++ (42 ∷ [])) T in
      let d = length-append D (42 ∷ []) in
      let e = length-append ((32 ∷ []) ++ D ++ (42 ∷ []) ++ T) F in
      let f = length-append ((32 ∷ []) ++ D ++ (42 ∷ [])) T in
      let h = length-append ((32 ∷ []) ++ D) (42 ∷ []) in
      omega arith

  module _ (s : Scenario) (sound : IsCampaign K s) (thirteen : s.generals ≤ 13) (short : (g : ℕ) (program : List Insn) → program_of s g ≡ Some program → length program ≤ 4096) where
    all_few : (n : ℕ) → All (λ (p : ℕ). p ≤ 4097) (replicate n full)
    all_few zero k d lt = absurd (omega arith)
    all_few (suc n) zero d lt = omega arith
    all_few (suc n) (suc k) d lt = all_few n k d (omega arith)

    each_same : (n g : ℕ) → g < n → get_or (replicate n full) g 0 ≡ full
    each_same zero g lt = absurd (omega arith)
    each_same (suc n) zero lt = refl
    each_same (suc n) (suc g) lt = each_same n g (omega arith)

    within_more : (k n : ℕ) (a : Activation) → k ≤ n → Within k a → Within n a
    unfolding Within
    within_more k n a le h = (h.0, (let l = h.1 in omega arith), h.2)

    fresh : (es : List Event) → HaveLeft (replicate 13 full) (run K (opening K s) es)
    fresh es =
        let w = run K (opening K s) es in
        let time = (held K s es sound).timely in
        record {
          board = time.kept.board;
          most = omega arith;
          few = all_few 13;
          left = λ g a at.
              let d = time.due g (Acting a) at in
              let lt : g < w.scenario.generals = (time.kept.parts g (Acting a) at).0 in
              let e : w.scenario.generals ≡ s.generals = ap (λ (c : Scenario). c.generals) time.scenario in
              let few = short g a.program d.program in
              let in_time = within_more (length a.program) 4096 a few (due_within s g a.program a d.program d) in
              let within : g < 13 = omega arith in
              (within, subst (λ (p : ℕ). Left p a) (sym (each_same 13 g within)) (inl (4096, refl, in_time)));
        }

    lines_cost : (names : List (List ℕ)) (es : List Event) (w : World) → run K (opening K s) es ≡ w → AreWalks K w names → 2 * length (schedule_text (schedule_from K w names)) ≤ 266307 * length names
    lines_cost [] es w there walks = omega arith
    lines_cost (line ∷ names) es w there walks =
        let round = names_events K w line ++ wound_up w.scenario in
        let next : run K (opening K s) (es ++ round) ≡ behind K w line = run-append K es round (opening K s) ∙ ap (λ (v : World). run K v round) there in
        let have = subst (λ (v : World). HaveLeft (replicate 13 full) v) there (fresh es) in
        let one = entries_cost line (replicate 13 full) w have walks.0 in
        let sum : total (replicate 13 full) ≡ 53261 = refl in
        let long = line_long (entries_from K w line) in
        let more = lines_cost names (es ++ round) (behind K w line) next walks.1 in
        let c = length-append (line_text (entries_from K w line)) (schedule_text (schedule_from K (behind K w line) names)) in
        omega arith

    -- The text of a schedule is short enough to be read.
    pub text_short : (names : List (List ℕ)) → length names ≤ 5 → AreWalks K (opening K s) names → length (schedule_text (schedule_from K (opening K s) names)) ≤ 1048576
    text_short names five walks = (let cost = lines_cost names [] (opening K s) refl walks in omega arith)
