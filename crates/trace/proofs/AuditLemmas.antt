-- What an audit answers, and the texts of replays.
use Rattle.std.proofs.Common.{◌≡◌, ℕ, zero, suc, ◌+◌, ◌-◌, ◌++◌, Bool, true, false, List, [], ◌∷◌, length, map, take, drop, Some, None, Result, Ok, Err, IfOk, Vec, refl, sym, ap, subst, ◌∙◌, arith}
use Rattle.std.specs.Prelude.{◌≢◌, Option, slice_get, bytes_eq, codes, if◌then◌else◌}
use Rattle.std.specs.Global.{Global}
use Rattle.std.proofs.lemmas.List.{take_all}
use Rattle.combine.specs.declared.campaign_rule.Rule.{Rule}
use Rattle.combine.specs.Names.{is_default}
use Rattle.round.specs.Scenario.{Scenario}
use Rattle.world.specs.Playing.{lists_in}
use Rattle.world.specs.declared.event.Event.{Event}
use Rattle.world.specs.Kind.{Kind, World, opening, run}
use Rattle.world.specs.KindLists.{names_events, replayed, replayed_rounds, wound_up}
use Rattle.world.specs.Chronicle.{Chronicle}
use Rattle.text.specs.Stop.{feed, space}
use Rattle.text.specs.Parts.{pieces}
use Rattle.trace.specs.declared.fault.TraceError.{TraceError}
use Rattle.trace.specs.declared.fault.TraceError.TheVariants.{Memory}
use Rattle.trace.specs.declared.version.Version.{Version}
use Rattle.trace.specs.declared.version.Version.TheVariants.{First, Second}
use Rattle.trace.specs.Text.{lines_in, text_in}
use Rattle.trace.specs.Names.{Named, named, names_of, chronicle_told}
use Rattle.trace.specs.Marks.{all_names}
use Rattle.trace.specs.Laws.{Admits, IsSoundText}
use Rattle.trace.specs.Audit.{fault_at, first_fault, line_at, line_version, lines_version, version_named, IsFirstDifference}
use Rattle.trace.specs.Shapes.{unshaped_from}

-- The lists after the first one, at most as many as were read.
names_behind : (items : List (Vec ℕ Global)) (n : Named) (k : ℕ) → lists_in items ≡ take (suc k) (all_names n) → lists_in (take (length items - 1) (drop 1 items)) ≡ take k n.1
names_behind [] n k h = absurd cc
names_behind (v ∷ vs) n k h =
    let all : take (length (v ∷ vs) - 1) vs ≡ vs = take_all (length (v ∷ vs) - 1) vs (omega arith) in
    let tails : lists_in vs ≡ take k n.1 = cc in
    ap lists_in all ∙ tails

-- Lists for rounds after the last change nothing.
first_rounds : (K : Kind) (k : ℕ) (names : List (List ℕ)) (w : World) → replayed_rounds K w k (take k names) ≡ replayed_rounds K w k names
first_rounds K zero names w = refl
first_rounds K (suc k) [] w = refl
first_rounds K (suc k) (line ∷ lines) w =
    let events = names_events K w line ++ wound_up w.scenario in
    ap (λ (later : List Event). events ++ later) (first_rounds K k lines (run K w events))

-- A fault is reported with its line, and is not a lack of memory.
pub fault_is_told : (t : List ℕ) (place : ℕ) (e : TraceError) → e ≡ fault_at t place → e ≢ Memory
unfolding fault_at
fault_is_told t place e told = by (unshaped_from 1 (pieces feed t)) (line_at t place) e told
  where
    by : (unshaped : Option ℕ) (line : ℕ) (e : TraceError) → e ≡ first_fault unshaped line → e ≢ Memory
    by (Some first) line e told none = absurd cc
    by None line e told none = absurd cc

-- A chronicle's text names its version.
pub version_known : (rule : Rule) (v : Version) (c : Chronicle) → Admits rule v → version_named rule (text_in v c) ≡ Some v
unfolding version_named text_in lines_in
version_known rule First c a = ap (λ b. if b then Some First else None) a
version_known rule Second c a = refl

-- The first version is named only for the default rule.
line_first : (rule : Rule) (line : List ℕ) → line_version rule line ≡ Some First → is_default rule ≡ true
line_first rule line h = by (bytes_eq line (codes "chronicle 2")) (bytes_eq line (codes "chronicle 1")) (is_default rule) h
  where
    by : (a b is_so : Bool) → (if a then Some Second else if b then (if is_so then Some First else None) else None) ≡ Some First → is_so ≡ true
    by true b is_so e = absurd cc
    by false true true e = refl
    by false true false e = absurd cc
    by false false is_so e = absurd cc

lines_first : (rule : Rule) (lines : List (List ℕ)) → lines_version rule lines ≡ Some First → is_default rule ≡ true
lines_first rule [] h = absurd cc
lines_first rule (line ∷ lines) h = line_first rule line h

-- If a text names a version, the campaign may be written in it.
pub named_admitted : (rule : Rule) (v : Version) (t : List ℕ) → version_named rule t ≡ Some v → Admits rule v
unfolding version_named
named_admitted rule Second t h = tt
named_admitted rule First t h = lines_first rule (pieces feed t) h

-- A sound text is in the version that it names.
sound_version : (s : Scenario) (t : List ℕ) (v : Version) → version_named s.rule t ≡ Some v → (h : IsSoundText s t) → t ≡ text_in v (chronicle_told s t)
sound_version s t v named h =
    let known : version_named s.rule t ≡ Some h.version = ap (version_named s.rule) h.same ∙ version_known s.rule h.version (chronicle_told s t) h.admitted in
    let same : h.version ≡ v = cc in
    h.same ∙ ap (λ w. text_in w (chronicle_told s t)) same

-- A text that is equal to the chronicle of its replay is sound.
pub same_is_sound : (s : Scenario) (t : List ℕ) (v : Version) → version_named s.rule t ≡ Some v → t ≡ text_in v (chronicle_told s t) → IsSoundText s t
same_is_sound s t v named same = record { version = v; admitted = named_admitted s.rule v t named; same = same }

-- A text that names no version of the campaign is not sound.
pub unnamed_is_unsound : (s : Scenario) (t : List ℕ) → version_named s.rule t ≡ None → IsSoundText s t → ⊥
unnamed_is_unsound s t none h =
    let known : version_named s.rule t ≡ Some h.version = ap (version_named s.rule) h.same ∙ version_known s.rule h.version (chronicle_told s t) h.admitted in
    absurd cc

-- A text that differs from the chronicle of its replay is not sound.
pub different_is_unsound : (s : Scenario) (t : List ℕ) (v : Version) (place : ℕ) → version_named s.rule t ≡ Some v → IsFirstDifference t (text_in v (chronicle_told s t)) place → IsSoundText s t → ⊥
different_is_unsound s t v place named d h = d.differs (ap (λ u. slice_get u place) (sound_version s t v named h))

-- The same for copies of the text and the rule.
pub refused_unnamed : (s : Scenario) (t bytes : List ℕ) (rule : Rule) → rule ≡ s.rule → bytes ≡ t → version_named rule bytes ≡ None → IsSoundText s t → ⊥
refused_unnamed s t bytes rule r b h = unnamed_is_unsound s t ((λ i. version_named (sym r i) (sym b i)) ∙ h)

pub refused_different : (s : Scenario) (t bytes : List ℕ) (rule : Rule) (v : Version) (c : Chronicle) (place : ℕ) → rule ≡ s.rule → bytes ≡ t → version_named rule bytes ≡ Some v → c ≡ chronicle_told s bytes
    → IsFirstDifference bytes (text_in v c) place → IsSoundText s t → ⊥
refused_different s t bytes rule v c place r b h e d =
    different_is_unsound s t v place ((λ i. version_named (sym r i) (sym b i)) ∙ h) (subst (λ u. IsFirstDifference u (text_in v (chronicle_told s u)) place) b (subst (λ x. IsFirstDifference bytes (text_in v x) place) e d))

pub found_sound : (s : Scenario) (t bytes : List ℕ) (rule : Rule) (v : Version) (c : Chronicle) → rule ≡ s.rule → bytes ≡ t → version_named rule bytes ≡ Some v → c ≡ chronicle_told s bytes
    → bytes ≡ text_in v c → IsSoundText s t
found_sound s t bytes rule v c r b h e d =
    same_is_sound s t v ((λ i. version_named (sym r i) (sym b i)) ∙ h) (subst (λ u. u ≡ text_in v (chronicle_told s u)) b (subst (λ x. bytes ≡ text_in v x) e d))

-- The chronicle of the replay of a copied scenario, by the names in the text. At most as many rounds as the campaign
-- has are replayed.
pub replayed_ok : {E : Type 0} (K : Kind) (tell : World → Chronicle) (s copy : Scenario) (t : List ℕ) (most : ℕ) (items lists : List (Vec ℕ Global)) (r : Result Chronicle E) → copy ≡ s → lists ≡ items → most ≡ s.bound + 2
    → lists_in items ≡ take most (all_names (named (map (pieces space) (pieces feed t))))
    → IfOk r (λ c. c ≡ tell (run K (opening K copy) (replayed K copy (lists_in (take (length lists - 1) (drop 1 lists)))))) → IfOk r (λ c. c ≡ tell (run K (opening K s) (replayed K s (names_of t))))
unfolding names_of
replayed_ok K tell s copy t most items lists (Err x) e same m h d = tt
replayed_ok K tell s copy t most items lists (Ok c) e same m h d =
    let all : Named = named (map (pieces space) (pieces feed t)) in
    let count : most ≡ suc (suc s.bound) = omega (arith, m) in
    let names : lists_in (take (length lists - 1) (drop 1 lists)) ≡ take (suc s.bound) all.1 =
    names_behind lists all (suc s.bound) (ap lists_in same ∙ (h ∙ ap (λ n. take n (all_names all)) count)) in
    d ∙ ((λ i. tell (run K (opening K (e i)) (replayed K (e i) (names i)))) ∙ ap (λ (events : List Event). tell (run K (opening K s) events)) (first_rounds K (suc s.bound) all.1 (opening K s)))
