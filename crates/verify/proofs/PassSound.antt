-- What is reached after edges are followed still describes what it described, and the state at the end of each edge.
use Rattle.std.proofs.Common.{◌≡◌, ◌∙◌, ◌≢◌, ◌⊎◌, ℕ, ℤ, pos, negsuc, ◌+◌, ◌<◌, ◌≤◌, List, [], ◌∷◌, ◌++◌, length, set, Bool, true, false, Option, Some, None, Result, Ok, Err, IfSome, inl, inr, refl, sym, ap, subst, arith, ⊎_elim, length-set, get_or-set_same, get_or-set_other}
use Rattle.std.specs.Prelude.{◌+ℤ◌}
use Rattle.std.proofs.lemmas.Bool.{cases_eq, cases_lt}
use Rattle.std.proofs.Math.ListN.{get_or-eq_default}
use Rattle.insn.specs.declared.insn.Insn.{Insn}
use Rattle.insn.specs.declared.insn.Insn.TheVariants.{Arithmetic, Negate, SignExtend, Swap, LoadImmediate, Load, LoadSigned, Store, Call, Jump, LongJump, Branch, Exit}
use Rattle.insn.specs.Insn.{units_of, IsInsn}
use Rattle.semantics.specs.declared.value.Value.{Value}
use Rattle.semantics.specs.declared.value.Value.TheVariants as value
use Rattle.semantics.specs.Relay.{IsSetting, Relay}
use Rattle.semantics.specs.State.{Cause, State, Outcome, Next, Ask, Trap, value_at, operand_value}
use Rattle.semantics.specs.State.{Exit as Exited}
use Rattle.semantics.specs.Step.{number_of, condition_of, arrived, jumped, branched, exited}
use Rattle.semantics.specs.Execution.{executed}
use Rattle.semantics.specs.Safety.{LeadsTo}
use Rattle.semantics.specs.Plain.{IsIn, leads_to}
use Rattle.absval.specs.Contains.{Contains}
use Rattle.verify.specs.declared.comparison.Comparison.{Comparison}
use Rattle.verify.specs.declared.state.AbsState.{AbsState}
use Rattle.verify.specs.Describes.{Describes}
use Rattle.verify.specs.Registers.{known_at, operand_known}
use Rattle.verify.specs.Reasons.{first_reason, compare_checks, exit_checks}
use Rattle.verify.proofs.Outcomes.{DescribesAt, GoesOn}
use Rattle.verify.specs.Instructions.{IsStraight, reason_of}
use Rattle.verify.specs.Transfer.{Edge, transfer, narrowed, edge_to, edges}
use Rattle.verify.specs.Judgement.{KnownSoFar, reached_at, joined_with, along, along_all}
use Rattle.verify.proofs.Meanings.{stands_at, operand_stands}
use Rattle.verify.proofs.StepSound.{IsMeant, is_word, straight_goes, follows_meant}
use Rattle.verify.proofs.JoinSound.{met_meant, met_left, met_right}
use Rattle.verify.proofs.EdgesSound.{DescribedBy, narrowed_describes, narrowed_meant}
use Rattle.absval.specs.declared.value.AbsVal.TheVariants.{Unset, Number, Pointer}
use Rattle.absval.specs.declared.value.AbsVal.{AbsVal}
use Rattle.verify.proofs.Taken.{length-along}

-- What is reached is well-formed, and describes s at a unit.
abbrev pub AreMeant : KnownSoFar → Type 0
AreMeant reached = (v : ℕ) → IfSome (reached_at reached v) IsMeant

abbrev pub At : KnownSoFar → ℕ → State → Type 0
At reached unit s = DescribedBy (reached_at reached unit) s

-- What was described still is.
abbrev pub Keeps : KnownSoFar → KnownSoFar → Type 0
Keeps old new = (v : ℕ) (s : State) → At old v s → At new v s

-- ---- one edge

joined_meant : (o : Option AbsState) (a : AbsState) → IfSome o IsMeant → IsMeant a → IsMeant (joined_with o a)
joined_meant None a h m = m
joined_meant (Some before) a h m = met_meant a before m h

joined_describes : (o : Option AbsState) (a : AbsState) (s : State) → IfSome o IsMeant → IsMeant a → Describes a s → Describes (joined_with o a) s
joined_describes None a s h m d = d
joined_describes (Some before) a s h m d = met_left a before s m h d

joined_keeps : (o : Option AbsState) (a : AbsState) (s : State) → IfSome o IsMeant → IsMeant a → DescribedBy o s → Describes (joined_with o a) s
joined_keeps None a s h m d = absurd d
joined_keeps (Some before) a s h m d = met_right a before s m h d

-- What is reached at a unit after an edge leads there.
set_here : (reached : KnownSoFar) (u : ℕ) (o : Option AbsState) → u < length reached → reached_at (set reached u o) u ≡ o
set_here reached u o lt = get_or-set_same reached u o None lt

set_there : (reached : KnownSoFar) (u v : ℕ) (o : Option AbsState) → v ≢ u → reached_at (set reached u o) v ≡ reached_at reached v
set_there reached u v o other = get_or-set_other reached u v o None other

set_out : (reached : KnownSoFar) (u : ℕ) (o : Option AbsState) → length reached ≤ u → reached_at (set reached u o) u ≡ None
set_out reached u o le = let more : length (set reached u o) ≤ u = omega (arith, length-set reached u o) in get_or-eq_default (set reached u o) None more

pub along_meant : (z : ℤ) (a : AbsState) (reached : KnownSoFar) → AreMeant reached → IsMeant a → AreMeant (along (z, a) reached)
along_meant (negsuc n) a reached all m v = all v
along_meant (pos u) a reached all m v = ⊎_elim
    (λ same. ⊎_elim
    (λ room. subst (λ (i : ℕ). IfSome (reached_at (along (pos u, a) reached) i) IsMeant) (sym same)
    (subst (λ (o : Option AbsState). IfSome o IsMeant) (sym (set_here reached u (Some (joined_with (reached_at reached u) a)) room)) (joined_meant (reached_at reached u) a (all u) m)))
    (λ over. subst (λ (i : ℕ). IfSome (reached_at (along (pos u, a) reached) i) IsMeant) (sym same)
    (subst (λ (o : Option AbsState). IfSome o IsMeant) (sym (set_out reached u (Some (joined_with (reached_at reached u) a)) over)) tt))
    (cases_lt u (length reached)))
    (λ other. subst (λ (o : Option AbsState). IfSome o IsMeant) (sym (set_there reached u v (Some (joined_with (reached_at reached u) a)) other)) (all v))
    (cases_eq v u)

pub along_takes : (u : ℕ) (a : AbsState) (reached : KnownSoFar) (s : State) → AreMeant reached → IsMeant a → u < length reached → Describes a s → At (along (pos u, a) reached) u s
along_takes u a reached s all m lt d =
    subst (λ (o : Option AbsState). DescribedBy o s) (sym (set_here reached u (Some (joined_with (reached_at reached u) a)) lt)) (joined_describes (reached_at reached u) a s (all u) m d)

not_out : (reached : KnownSoFar) (u : ℕ) (s : State) → length reached ≤ u → At reached u s → ⊥
not_out reached u s le h = subst (λ (o : Option AbsState). DescribedBy o s) (get_or-eq_default reached None le) h

pub along_keeps : (z : ℤ) (a : AbsState) (reached : KnownSoFar) → AreMeant reached → IsMeant a → Keeps reached (along (z, a) reached)
along_keeps (negsuc n) a reached all m v s h = h
along_keeps (pos u) a reached all m v s h = ⊎_elim
    (λ same. let here : At reached u s = subst (λ (i : ℕ). At reached i s) same h in
    subst (λ (i : ℕ). At (along (pos u, a) reached) i s) (sym same) (⊎_elim
    (λ room. subst (λ (o : Option AbsState). DescribedBy o s) (sym (set_here reached u (Some (joined_with (reached_at reached u) a)) room)) (joined_keeps (reached_at reached u) a s (all u) m here))
    (λ over. absurd (not_out reached u s over here))
    (cases_lt u (length reached))))
    (λ other. subst (λ (o : Option AbsState). DescribedBy o s) (sym (set_there reached u v (Some (joined_with (reached_at reached u) a)) other)) h)
    (cases_eq v u)

-- ---- all edges

-- The states of the edges are well-formed.
abbrev EdgesMeant : List Edge → Type 0
EdgesMeant [] = Unit {0}
EdgesMeant (e ∷ es) = IsMeant e.1 × EdgesMeant es

all_meant : (es : List Edge) (reached : KnownSoFar) → EdgesMeant es → AreMeant reached → AreMeant (along_all es reached)
all_meant [] reached h all = all
all_meant (e ∷ es) reached h all = all_meant es (along e reached) h.1 (along_meant e.0 e.1 reached all h.0)

all_keeps : (es : List Edge) (reached : KnownSoFar) → EdgesMeant es → AreMeant reached → Keeps reached (along_all es reached)
all_keeps [] reached h all v s k = k
all_keeps (e ∷ es) reached h all v s k = all_keeps es (along e reached) h.1 (along_meant e.0 e.1 reached all h.0) v s (along_keeps e.0 e.1 reached all h.0 v s k)

-- An edge leads to the unit, and what is known along it describes s.
abbrev Leads : List Edge → ℕ → State → Type 0
Leads [] unit s = ⊥
Leads (e ∷ es) unit s = ((e.0 ≡ pos unit) × Describes e.1 s) ⊎ Leads es unit s

all_take : (es : List Edge) (reached : KnownSoFar) (unit : ℕ) (s : State) → EdgesMeant es → AreMeant reached → unit < length reached → Leads es unit s → At (along_all es reached) unit s
all_take [] reached unit s h all lt leads = absurd leads
all_take (e ∷ es) reached unit s h all lt leads = ⊎_elim
    (λ here. all_keeps es (along e reached) h.1 (along_meant e.0 e.1 reached all h.0) unit s
    (subst (λ (z : ℤ). At (along (z, e.1) reached) unit s) (sym here.0) (along_takes unit e.1 reached s all h.0 lt here.1)))
    (λ later. all_take es (along e reached) unit s h.1 (along_meant e.0 e.1 reached all h.0) (let same = length-along e reached in omega arith) later)
    leads

-- ---- the edges of an instruction

edge_meant : (z : ℤ) (o : Option AbsState) (es : List Edge) → IfSome o IsMeant → EdgesMeant es → EdgesMeant (edge_to z o ++ es)
edge_meant z None es h k = k
edge_meant z (Some a) es h k = (h, k)

edge_last : (z : ℤ) (o : Option AbsState) → IfSome o IsMeant → EdgesMeant (edge_to z o)
edge_last z None h = tt
edge_last z (Some a) h = (h, tt)

pub edges_meant : (i : Insn) (unit : ℕ) (a : AbsState) → IsInsn i → IsMeant a → EdgesMeant (edges i unit a)
edges_meant (Jump distance) unit a insn m = (m, tt)
edges_meant (LongJump distance) unit a insn m = (m, tt)
edges_meant (Branch w condition dst operand distance) unit a insn m =
    let c : Comparison = record { width = w; condition = condition; dst = dst; operand = operand } in
    let fits = is_word operand insn.1 in
    edge_meant (pos (unit + 1)) (narrowed c false a) (edge_to (pos (unit + 1) +ℤ distance) (narrowed c true a)) (narrowed_meant c false a fits m)
    (edge_last (pos (unit + 1) +ℤ distance) (narrowed c true a) (narrowed_meant c true a fits m))
edges_meant Exit unit a insn m = tt
edges_meant (Arithmetic w operation dst operand) unit a insn m = (follows_meant (Arithmetic w operation dst operand) a insn m, tt)
edges_meant (Negate w dst) unit a insn m = (follows_meant (Negate w dst) a insn m, tt)
edges_meant (SignExtend w part dst src) unit a insn m = (follows_meant (SignExtend w part dst src) a insn m, tt)
edges_meant (Swap order size dst) unit a insn m = (follows_meant (Swap order size dst) a insn m, tt)
edges_meant (LoadImmediate dst number) unit a insn m = (follows_meant (LoadImmediate dst number) a insn m, tt)
edges_meant (Load size dst base offset) unit a insn m = (follows_meant (Load size dst base offset) a insn m, tt)
edges_meant (LoadSigned part dst base offset) unit a insn m = (follows_meant (LoadSigned part dst base offset) a insn m, tt)
edges_meant (Store size base offset source) unit a insn m = (follows_meant (Store size base offset source) a insn m, tt)
edges_meant (Call number) unit a insn m = (follows_meant (Call number) a insn m, tt)

-- Each state that may follow is at the end of an edge, and what is known along the edge describes it.
abbrev pub Follow : Insn → ℕ → AbsState → Outcome → Type 0
Follow i unit a o = LeadsTo (λ t. IsIn (pos t.unit) (leads_to i unit) × Leads (edges i unit a) t.unit t) o

straight_stands : (i : Insn) (unit : ℕ) (a : AbsState) (s t : State) → s.unit ≡ unit → DescribesAt (transfer i a) (s.unit + units_of i) t →
    (pos t.unit ≡ pos (unit + units_of i)) × (pos (unit + units_of i) ≡ pos t.unit) × Describes (transfer i a) t
straight_stands i unit a s t e stands =
    let to : t.unit ≡ unit + units_of i = stands.0 ∙ ap (λ (n : ℕ). n + units_of i) e in
    (ap pos to, ap pos (sym to), stands.1)

-- The same for an instruction that continues with the next one.
abbrev Behind : Insn → ℕ → AbsState → Outcome → Type 0
Behind i unit a o = LeadsTo (λ t. (pos t.unit ≡ pos (unit + units_of i)) × (pos (unit + units_of i) ≡ pos t.unit) × Describes (transfer i a) t) o

goes_behind : (i : Insn) (unit : ℕ) (a : AbsState) (s : State) (o : Outcome) → s.unit ≡ unit → GoesOn (transfer i a) (s.unit + units_of i) o → Behind i unit a o
goes_behind i unit a s (Next t) e goes = straight_stands i unit a s t e goes
goes_behind i unit a s (Ask request t) e goes = λ answer fit. straight_stands i unit a s _ e (goes answer fit)
goes_behind i unit a s (Exited r0 t) e goes = absurd goes
goes_behind i unit a s (Trap cause) e goes = absurd goes

weaker : (P Q : State → Type 0) (o : Outcome) → ((t : State) → P t → Q t) → LeadsTo P o → LeadsTo Q o
weaker P Q (Next t) w h = w t h
weaker P Q (Ask request t) w h = λ answer f. w _ (h answer f)
weaker P Q (Exited r0 t) w h = tt
weaker P Q (Trap cause) w h = h

-- ---- jumps

jump_follows : (i : Insn) (unit : ℕ) (distance : ℤ) (a : AbsState) (s : State) → s.unit ≡ unit → Describes a s → (to : ℕ) → pos (unit + 1) +ℤ distance ≡ pos to →
    LeadsTo (λ t. (pos t.unit ≡ pos (unit + 1) +ℤ distance) × ((pos (unit + 1) +ℤ distance) ≡ pos t.unit) × Describes a t) (jumped s distance)
jump_follows i unit distance a s e d to there =
    let here : pos (s.unit + 1) +ℤ distance ≡ pos to = ap (λ (n : ℕ). pos (n + 1) +ℤ distance) e ∙ there in
    subst (λ (z : ℤ). LeadsTo (λ t. (pos t.unit ≡ pos (unit + 1) +ℤ distance) × ((pos (unit + 1) +ℤ distance) ≡ pos t.unit) × Describes a t) (arrived s z)) (sym here)
    (sym there, there, record { registers = d.registers; stack = d.stack; size = d.size })

-- ---- conditional jumps

-- Two numbers are compared.
decided : (e f : AbsVal) (c : Comparison) (x y : Value) → first_reason (compare_checks e f) ≡ None → Contains e x → Contains f y → (t : Bool) × (condition_of c.width c.condition x y ≡ Ok t)
decided Unset f c x y none p q = absurd cc
decided (Pointer region o) Unset c x y none p q = absurd cc
decided (Pointer region o) (Number n) c x y none p q = absurd cc
decided (Pointer region o) (Pointer other at) c x y none p q = absurd cc
decided (Number m) Unset c x y none p q = absurd cc
decided (Number m) (Pointer region o) c x y none p q = absurd cc
decided (Number m) (Number n) c value.Unset y none p q = absurd p
decided (Number m) (Number n) c (value.Pointer region o) y none p q = absurd p
decided (Number m) (Number n) c (value.Number i) value.Unset none p q = absurd q
decided (Number m) (Number n) c (value.Number i) (value.Pointer region o) none p q = absurd q
decided (Number m) (Number n) c (value.Number i) (value.Number j) none p q = (_, refl)

lead_first : (z : ℤ) (o : Option AbsState) (es : List Edge) (unit : ℕ) (t : State) → z ≡ pos unit → DescribedBy o t → Leads (edge_to z o ++ es) unit t
lead_first z None es unit t e d = absurd d
lead_first z (Some a) es unit t e d = inl (e, d)

lead_later : (z : ℤ) (o : Option AbsState) (es : List Edge) (unit : ℕ) (t : State) → Leads es unit t → Leads (edge_to z o ++ es) unit t
lead_later z None es unit t h = h
lead_later z (Some a) es unit t h = inr h

lead_last : (z : ℤ) (o : Option AbsState) (unit : ℕ) (t : State) → z ≡ pos unit → DescribedBy o t → Leads (edge_to z o) unit t
lead_last z None unit t e d = absurd d
lead_last z (Some a) unit t e d = inl (e, d)

moved_describes : (o : Option AbsState) (s : State) (unit steps : ℕ) → DescribedBy o s → DescribedBy o (record s { unit = unit; steps = steps })
moved_describes None s unit steps d = d
moved_describes (Some a) s unit steps d = record { registers = d.registers; stack = d.stack; size = d.size }

-- The states that may follow a conditional jump.
abbrev Branches : Comparison → ℤ → ℕ → AbsState → Outcome → Type 0
Branches c distance unit a o = LeadsTo (λ t. IsIn (pos t.unit) (pos (unit + 1) ∷ (pos (unit + 1) +ℤ distance) ∷ []) ×
    Leads (edge_to (pos (unit + 1)) (narrowed c false a) ++ edge_to (pos (unit + 1) +ℤ distance) (narrowed c true a)) t.unit t) o

branch_follows : (c : Comparison) (distance : ℤ) (unit : ℕ) (a : AbsState) (s : State) (r : Result Bool Cause) → s.unit ≡ unit → (to : ℕ) → pos (unit + 1) +ℤ distance ≡ pos to →
    (t : Bool) → r ≡ Ok t → DescribedBy (narrowed c t a) s → Branches c distance unit a (branched s distance r)
branch_follows c distance unit a s (Err cause) e to there t same d = absurd cc
branch_follows c distance unit a s (Ok true) e to there t same d =
    let way : t ≡ true = cc in
    let here : pos (s.unit + 1) +ℤ distance ≡ pos to = ap (λ (n : ℕ). pos (n + 1) +ℤ distance) e ∙ there in
    let taken = subst (λ (b : Bool). DescribedBy (narrowed c b a) s) way d in
    subst (λ (z : ℤ). Branches c distance unit a (arrived s z)) (sym here) (
      inr (inl (sym there)),
      lead_later (pos (unit + 1)) (narrowed c false a) (edge_to (pos (unit + 1) +ℤ distance) (narrowed c true a)) to _
          (lead_last (pos (unit + 1) +ℤ distance) (narrowed c true a) to _ there (moved_describes (narrowed c true a) s to (s.steps + 1) taken)),
    )
branch_follows c distance unit a s (Ok false) e to there t same d =
    let way : t ≡ false = cc in
    let passed = subst (λ (b : Bool). DescribedBy (narrowed c b a) s) way d in
    let next : pos (s.unit + 1) ≡ pos (unit + 1) = ap (λ (n : ℕ). pos (n + 1)) e in (
      inl next,
      lead_first (pos (unit + 1)) (narrowed c false a) (edge_to (pos (unit + 1) +ℤ distance) (narrowed c true a)) (s.unit + 1) _ (sym next)
          (moved_describes (narrowed c false a) s (s.unit + 1) (s.steps + 1) passed),
    )

-- ---- the exit

exits : (e : AbsVal) (s : State) (v : Value) → first_reason (exit_checks e) ≡ None → Contains e v → (P : State → Type 0) → LeadsTo P (exited s (number_of v))
exits Unset s v none p P = absurd cc
exits (Pointer region o) s v none p P = absurd cc
exits (Number n) s value.Unset none p P = absurd p
exits (Number n) s (value.Number i) none p P = tt
exits (Number n) s (value.Pointer region o) none p P = absurd p

-- ---- each instruction

-- Where the jump of an instruction leads, if it is one.
abbrev pub Lands : Insn → ℕ → Type 0
Lands i unit = (z : ℤ) → IsIn z (leads_to i unit) → (to : ℕ) × (z ≡ pos to)

straight_follows : (i : Insn) (unit : ℕ) (a : AbsState) (context : List ℕ) (relay : Relay) (s : State) → IsStraight i → IsInsn i → IsMeant a → reason_of i a ≡ None → IsSetting context relay → s.unit ≡ unit →
    Describes a s → Behind i unit a (executed context relay i s)
straight_follows i unit a context relay s straight insn m none setting e d =
    goes_behind i unit a s (executed context relay i s) e (straight_goes i a straight insn m none context relay s setting d)

one_edge : (i : Insn) (unit : ℕ) (a : AbsState) (t : State) → (pos t.unit ≡ pos (unit + units_of i)) × (pos (unit + units_of i) ≡ pos t.unit) × Describes (transfer i a) t →
    IsIn (pos t.unit) (pos (unit + units_of i) ∷ []) × Leads ((pos (unit + units_of i), transfer i a) ∷ []) t.unit t
one_edge i unit a t h = (inl h.0, inl (h.1, h.2))

pub executed_follows : (i : Insn) (unit : ℕ) (a : AbsState) (context : List ℕ) (relay : Relay) (s : State) → IsInsn i → IsMeant a → reason_of i a ≡ None → Lands i unit → IsSetting context relay → s.unit ≡ unit →
    Describes a s → Follow i unit a (executed context relay i s)
executed_follows (Jump distance) unit a context relay s insn m none lands setting e d =
    let to = lands (pos (unit + 1) +ℤ distance) (inl refl) in
    weaker _ _ (jumped s distance) (λ t h. (inl h.0, inl (h.1, h.2))) (jump_follows (Jump distance) unit distance a s e d to.0 to.1)
executed_follows (LongJump distance) unit a context relay s insn m none lands setting e d =
    let to = lands (pos (unit + 1) +ℤ distance) (inl refl) in
    weaker _ _ (jumped s distance) (λ t h. (inl h.0, inl (h.1, h.2))) (jump_follows (LongJump distance) unit distance a s e d to.0 to.1)
executed_follows (Branch w condition dst operand distance) unit a context relay s insn m none lands setting e d =
    let c : Comparison = record { width = w; condition = condition; dst = dst; operand = operand } in
    let fits = is_word operand insn.1 in
    let to = lands (pos (unit + 1) +ℤ distance) (inr (inl refl)) in
    let test = decided (known_at a.registers dst) (operand_known a.registers operand) c (value_at s.registers dst) (operand_value s.registers operand) none
    (stands_at a.registers s.registers dst d.registers) (operand_stands a.registers s.registers operand fits d.registers) in
    branch_follows c distance unit a s (condition_of w condition (value_at s.registers dst) (operand_value s.registers operand)) e to.0 to.1 test.0 test.1
    (narrowed_describes c test.0 a s fits m d test.1)
executed_follows Exit unit a context relay s insn m none lands setting e d =
    exits (known_at a.registers 0) s (value_at s.registers 0) none (stands_at a.registers s.registers 0 d.registers) _
executed_follows (Arithmetic w operation dst operand) unit a context relay s insn m none lands setting e d =
    weaker _ _ _ (one_edge (Arithmetic w operation dst operand) unit a) (straight_follows (Arithmetic w operation dst operand) unit a context relay s tt insn m none setting e d)
executed_follows (Negate w dst) unit a context relay s insn m none lands setting e d =
    weaker _ _ _ (one_edge (Negate w dst) unit a) (straight_follows (Negate w dst) unit a context relay s tt insn m none setting e d)
executed_follows (SignExtend w part dst src) unit a context relay s insn m none lands setting e d =
    weaker _ _ _ (one_edge (SignExtend w part dst src) unit a) (straight_follows (SignExtend w part dst src) unit a context relay s tt insn m none setting e d)
executed_follows (Swap order size dst) unit a context relay s insn m none lands setting e d =
    weaker _ _ _ (one_edge (Swap order size dst) unit a) (straight_follows (Swap order size dst) unit a context relay s tt insn m none setting e d)
executed_follows (LoadImmediate dst number) unit a context relay s insn m none lands setting e d =
    weaker _ _ _ (one_edge (LoadImmediate dst number) unit a) (straight_follows (LoadImmediate dst number) unit a context relay s tt insn m none setting e d)
executed_follows (Load size dst base offset) unit a context relay s insn m none lands setting e d =
    weaker _ _ _ (one_edge (Load size dst base offset) unit a) (straight_follows (Load size dst base offset) unit a context relay s tt insn m none setting e d)
executed_follows (LoadSigned part dst base offset) unit a context relay s insn m none lands setting e d =
    weaker _ _ _ (one_edge (LoadSigned part dst base offset) unit a) (straight_follows (LoadSigned part dst base offset) unit a context relay s tt insn m none setting e d)
executed_follows (Store size base offset source) unit a context relay s insn m none lands setting e d =
    weaker _ _ _ (one_edge (Store size base offset source) unit a) (straight_follows (Store size base offset source) unit a context relay s tt insn m none setting e d)
executed_follows (Call number) unit a context relay s insn m none lands setting e d =
    weaker _ _ _ (one_edge (Call number) unit a) (straight_follows (Call number) unit a context relay s tt insn m none setting e d)

-- ---- a unit is passed

-- Each state that may follow is described at its unit.
pub unit_leads : (i : Insn) (unit : ℕ) (a : AbsState) (reached : KnownSoFar) (context : List ℕ) (relay : Relay) (s : State) → IsInsn i → AreMeant reached → IsMeant a → reason_of i a ≡ None → Lands i unit →
    ((v : ℕ) → IsIn (pos v) (leads_to i unit) → v < length reached) → IsSetting context relay → s.unit ≡ unit → Describes a s →
    LeadsTo (λ t. IsIn (pos t.unit) (leads_to i unit) × At (along_all (edges i unit a) reached) t.unit t) (executed context relay i s)
unit_leads i unit a reached context relay s insn all m none lands inside setting e d =
    weaker _ _ (executed context relay i s) (λ t h. (h.0, all_take (edges i unit a) reached t.unit t (edges_meant i unit a insn m) all (inside t.unit h.0) h.1))
    (executed_follows i unit a context relay s insn m none lands setting e d)

pub unit_meant : (i : Insn) (unit : ℕ) (a : AbsState) (reached : KnownSoFar) → IsInsn i → AreMeant reached → IsMeant a → AreMeant (along_all (edges i unit a) reached)
unit_meant i unit a reached insn all m = all_meant (edges i unit a) reached (edges_meant i unit a insn m) all

pub unit_keeps : (i : Insn) (unit : ℕ) (a : AbsState) (reached : KnownSoFar) → IsInsn i → AreMeant reached → IsMeant a → Keeps reached (along_all (edges i unit a) reached)
unit_keeps i unit a reached insn all m = all_keeps (edges i unit a) reached (edges_meant i unit a insn m) all
