-- The message table of a whole chronicle.
use Rattle.std.proofs.Common.{ℕ, ◌<◌, ◌≡◌, ◌≢◌, true, false, List, [], ◌∷◌, map, sym, ap, subst, ◌∙◌, Ok, Err, IfOk, Result, String, string_bytes}
use Rattle.std.specs.declared.alloc.AllocError.{AllocError}
use Rattle.std.specs.declared.alloc.Global.{Global}
use Rattle.std.specs.Prelude.{◌==◌}
use Rattle.std.proofs.lemmas.Bool.{eq-eqb, or_left, true≢false}
use Rattle.combine.specs.declared.campaign_rule.Rule.{Rule}
use Rattle.combine.specs.Rule.{combined_by}
use Rattle.label.specs.Labels.{on}
use Rattle.label.specs.Lieutenants.{lieutenants}
use Rattle.label.specs.Oral.{Messages, om}
use Rattle.label.proofs.Counting.{map_agree, others-on}
use Rattle.book.specs.Decisions.{decision_of, decisions_of}
use Rattle.book.specs.Grammar.{table_told}
use Rattle.book.specs.Table.{AreNumbersWithin, MessageTable}
use Rattle.book.proofs.Places.{is_place_of}
use Rattle.tree.specs.LieutenantTree.{LieutenantTree}
use Rattle.round.specs.Letters.{Letter, messages}
use Rattle.round.specs.Scenario.{Scenario, IsScenario}
use Rattle.round.specs.Told.{ToldSeen, WasTold}
use Rattle.world.specs.Chronicle.{Chronicle, decision, decisions}
use Rattle.book.specs.Hearing.{heard}
use Rattle.book.specs.WrittenLaws.{IsTableOf}
use Rattle.book.specs.Written.{table_text}
use Rattle.book.proofs.Flattened.{tables_same}
use Rattle.book.proofs.Reread.{decides_same}
use Rattle.show_table.specs.Retold.{IsRetold, IsWhole}
use Rattle.show_table.proofs.Heard.{heard_is}

-- Proves that the numbers of a scenario can be those of a table.
pub numbers_within : (s : Scenario) → IsScenario s → AreNumbersWithin s.generals s.bound s.commander
numbers_within s inside = record { few = inside.few; rounds = inside.rounds; relays = inside.enough; present = inside.commander }

off_commander : (c p : ℕ) → on (c ∷ []) p ≡ false → p ≢ c
off_commander c p off same = true≢false (sym (or_left (c == p) false (eq-eqb c p (sym same))) ∙ off)

-- Proves what is decided from a table with these numbers.
same_decisions : (t : MessageTable) (M : Messages) (n m c : ℕ) (rule : Rule) → t.generals ≡ n → t.commander ≡ c → ((p : ℕ) → p < n → p ≢ c → decision_of t p ≡ om (combined_by rule) n M m (c ∷ []) p)
    → decisions_of t ≡ map (λ p. om (combined_by rule) n M m (c ∷ []) p) (lieutenants n c)
unfolding decisions_of
same_decisions t M n m c rule en ec same =
    ap (λ (k : ℕ). map (decision_of t) (lieutenants k t.commander)) en
    ∙ (ap (λ (k : ℕ). map (decision_of t) (lieutenants n k)) ec
    ∙ map_agree (decision_of t) (λ p. om (combined_by rule) n M m (c ∷ []) p) (lieutenants n c)
    (λ p i. let there = others-on n (c ∷ []) p i in same p there.0 (off_commander c p there.1)))

decided : (c : Chronicle) (ds : List ℕ) → ds ≡ map (decision c.scenario (messages c.letters)) (lieutenants c.scenario.generals c.scenario.commander) → c.decisions ≡ decisions c.scenario (messages c.letters) → ds ≡ c.decisions
unfolding decisions
decided c ds is whole = is ∙ sym whole

-- Proves that the table written from the lieutenants' trees is that of the chronicle.
pub retold : (c : Chronicle) (h : ToldSeen) (text : List ℕ) → IsScenario c.scenario → IsWhole c → WasTold c.scenario c.letters h
    → text ≡ table_text (heard h.trees) c.scenario.generals c.scenario.bound c.scenario.commander c.scenario.rule
    → ((t : MessageTable) × (table_told text ≡ Ok t) × IsTableOf (heard h.trees) c.scenario.generals c.scenario.bound c.scenario.commander c.scenario.rule t) → IsRetold c text
retold c h text inside whole told written read =
    let s : Scenario = c.scenario in
    let same : (w : List ℕ) (p : ℕ) → is_place_of s.generals s.bound s.commander w p ≡ true → heard h.trees w p ≡ messages c.letters w p = heard_is c.scenario c.letters h inside told in
    let is = read.2 in
    record {
      written = written ∙ tables_same (heard h.trees) (messages c.letters) c.scenario.generals c.scenario.bound c.scenario.commander c.scenario.rule inside.commander same;
      table = read.0;
      told = read.1;
      generals = is.generals;
      bound = is.bound;
      commander = is.commander;
      rule = is.rule;
      decisions = decided c (decisions_of read.0)
          (same_decisions read.0 (messages c.letters) c.scenario.generals c.scenario.bound c.scenario.commander c.scenario.rule is.generals is.commander
          (λ p l ne. is.decides p l ne ∙ decides_same (combined_by c.scenario.rule) c.scenario.generals c.scenario.bound c.scenario.commander p (heard h.trees) (messages c.letters) inside.commander l ne same))
          whole.decisions;
    }

-- Proves the same for the result of writing the table, from what is known of the arguments.
pub retold_or_error : (c : Chronicle) (h : ToldSeen) (s : Scenario) (letters : List (List Letter)) (trees : List LieutenantTree) (n m k : ℕ) (by : Rule)
    → IsScenario s → s ≡ c.scenario → letters ≡ c.letters → trees ≡ h.trees → n ≡ s.generals → m ≡ s.bound → k ≡ s.commander → by ≡ s.rule → IsWhole c → WasTold s letters h
    → (r : Result (String Global) AllocError) → IfOk r (λ text. string_bytes text ≡ table_text (heard trees) n m k by)
    → IfOk r (λ text. (t : MessageTable) × (table_told (string_bytes text) ≡ Ok t) × IsTableOf (heard trees) n m k by t) → IfOk r (λ text. IsRetold c (string_bytes text))
retold_or_error c h s letters trees n m k by inside es el et en em ek eb whole told (Err e) written read = tt
retold_or_error c h s letters trees n m k by inside es el et en em ek eb whole told (Ok text) written read =
    let gn : n ≡ c.scenario.generals = en ∙ ap (λ (x : Scenario). x.generals) es in
    let gm : m ≡ c.scenario.bound = em ∙ ap (λ (x : Scenario). x.bound) es in
    let gk : k ≡ c.scenario.commander = ek ∙ ap (λ (x : Scenario). x.commander) es in
    let gb : by ≡ c.scenario.rule = eb ∙ ap (λ (x : Scenario). x.rule) es in
    let same : table_text (heard trees) n m k by ≡ table_text (heard h.trees) c.scenario.generals c.scenario.bound c.scenario.commander c.scenario.rule =
    (λ i. table_text (heard (et i)) (gn i) (gm i) (gk i) (gb i))
    in
    let R : List LieutenantTree → ℕ → ℕ → ℕ → Rule → Type 0 = λ ts a b d rule. (t : MessageTable) × (table_told (string_bytes text) ≡ Ok t) × IsTableOf (heard ts) a b d rule t in
    let first : R h.trees n m k by = subst (λ (ts : List LieutenantTree). R ts n m k by) et read in
    let second : R h.trees c.scenario.generals m k by = subst (λ (a : ℕ). R h.trees a m k by) gn first in
    let third : R h.trees c.scenario.generals c.scenario.bound k by = subst (λ (b : ℕ). R h.trees c.scenario.generals b k by) gm second in
    let fourth : R h.trees c.scenario.generals c.scenario.bound c.scenario.commander by = subst (λ (d : ℕ). R h.trees c.scenario.generals c.scenario.bound d by) gk third in
    let fifth : R h.trees c.scenario.generals c.scenario.bound c.scenario.commander c.scenario.rule = subst (λ (rule : Rule). R h.trees c.scenario.generals c.scenario.bound c.scenario.commander rule) gb fourth in
    retold c h (string_bytes text) (subst IsScenario es inside) whole (subst (λ (x : Scenario). WasTold x c.letters h) es (subst (λ (ls : List (List Letter)). WasTold s ls h) el told)) (written ∙ same) fifth
