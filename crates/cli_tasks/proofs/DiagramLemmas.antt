-- Lemmas about the picture of an oral campaign's chronicle.
use Rattle.std.proofs.Common.{ℕ, ◌≡◌, ◌∙◌, true, List, Ok, ap, subst, sym}
use Rattle.combine.specs.Rule.{combined_by}
use Rattle.book.specs.Grammar.{table_told}
use Rattle.book.specs.Table.{MessageTable}
use Rattle.book.proofs.Places.{is_place_of}
use Rattle.show_diagram.specs.Laws.{BlamesTraitors}
use Rattle.show_diagram.specs.Svg.{svg_text}
use Rattle.show_diagram.proofs.LoyalLaws.{blamed}
use Rattle.show_table.specs.Retold.{IsWhole, table_of}
use Rattle.show_table.proofs.Heard.{heard_is}
use Rattle.show_table.proofs.Rounds.{played_whole, replayed_whole}
use Rattle.show_table.proofs.Tables.{numbers_within}
use Rattle.round.specs.Letters.{messages}
use Rattle.round.specs.Scenario.{Scenario, IsScenario}
use Rattle.round.specs.Told.{ToldSeen, WasTold}
use Rattle.scenario.specs.declared.messages.Campaign.TheVariants.{Signed}
use Rattle.show_chains.specs.Svg.{signed_svg}
use Rattle.book.specs.Hearing.{heard}
use Rattle.book.specs.WrittenLaws.{AreOrders, IsTableOf}
use Rattle.book.proofs.Flattened.{tables_same}
use Rattle.book.proofs.Reread.{decides_same, proved_tables_are_read, within}
use Rattle.tree.specs.LieutenantTree.{LieutenantTree}
use Rattle.trace.specs.Names.{chronicle_told, names_of}
use Rattle.trace.specs.SignedAudit.{IsSoundSignedText, signed_chronicle_told}
use Rattle.world.specs.Chronicle.{Chronicle}
use Rattle.world.specs.Schedules.{lines_by}
use Rattle.world.specs.declared.schedule.Repeat.{Repeat}
use Rattle.cli_tasks.specs.Schedules.{played, signed_played}
use Rattle.cli_tasks.specs.Diagrams.{IsCampaignDrawn, IsDiagram, IsRecordDrawn}
use Rattle.cli_tasks.specs.Promises.{AreFaithful}
use Rattle.cli_tasks.proofs.BlameLemmas.{signed_played_blames, signed_told_blames}
use Rattle.cli_tasks.proofs.PromiseLemmas.{played_faithful, played_kept, signed_played_kept, signed_told_kept, told_faithful, told_kept}

-- A chronicle is whole if it comes from playing a schedule, or from a text that is audited.
pub played_wholly : (s : Scenario) (schedule : List (List Repeat)) (c : Chronicle) → IsScenario s → c ≡ played s schedule → IsWhole c
played_wholly s schedule c inside is = played_whole s (lines_by schedule) c inside is

pub told_wholly : (s : Scenario) (bytes : List ℕ) (c : Chronicle) → IsScenario s → c ≡ chronicle_told s bytes → IsWhole c
unfolding chronicle_told
told_wholly s bytes c inside is = replayed_whole s (names_of bytes) c inside is

one_table : (text : List ℕ) (a b : MessageTable) → table_told text ≡ Ok a → table_told text ≡ Ok b → a ≡ b
one_table text a b e f = cc

-- The message table that is written from a chronicle is read back with the messages of the chronicle's letters.
pub table_is : (c : Chronicle) (h : ToldSeen) (t : MessageTable) → IsScenario c.scenario → WasTold c.scenario c.letters h → AreOrders (heard h.trees)
    → table_told (table_of c) ≡ Ok t → IsTableOf (messages c.letters) c.scenario.generals c.scenario.bound c.scenario.commander c.scenario.rule t
table_is c h t inside was orders told =
    let s : Scenario = c.scenario in
    let same : (w : List ℕ) (p : ℕ) → is_place_of s.generals s.bound s.commander w p ≡ true → heard h.trees w p ≡ messages c.letters w p = heard_is s c.letters h inside was in
    let read = proved_tables_are_read (heard h.trees) orders s.generals s.bound s.commander s.rule (within s.generals s.bound s.commander (numbers_within s inside)) in
    let texts = tables_same (heard h.trees) (messages c.letters) s.generals s.bound s.commander s.rule inside.commander same in
    let one : read.0 ≡ t = one_table (table_of c) read.0 t (ap table_told (sym texts) ∙ read.1) told in
    let is : IsTableOf (heard h.trees) s.generals s.bound s.commander s.rule t = subst (λ (u : MessageTable). IsTableOf (heard h.trees) s.generals s.bound s.commander s.rule u) one read.2 in
    let there : (w : List ℕ) (p : ℕ) → is_place_of t.generals t.bound t.commander w p ≡ is_place_of s.generals s.bound s.commander w p =
    λ w p. λ i. is_place_of (is.generals i) (is.bound i) (is.commander i) w p
    in
    record {
      generals = is.generals;
      bound = is.bound;
      commander = is.commander;
      rule = is.rule;
      told = λ w p place. is.told w p place ∙ same w p (sym (there w p) ∙ place);
      decides = λ p l ne. is.decides p l ne ∙ decides_same (combined_by s.rule) s.generals s.bound s.commander p (heard h.trees) (messages c.letters) inside.commander l ne same;
    }

-- If the loyal generals of a chronicle are faithful, only traitors differ from the protocol in its message table.
pub blames : (c : Chronicle) (s : Scenario) (h : ToldSeen) (trees : List LieutenantTree) (t : MessageTable) → s ≡ c.scenario → IsScenario s → AreFaithful c → WasTold c.scenario c.letters h
    → trees ≡ h.trees → AreOrders (heard trees) → table_told (table_of c) ≡ Ok t → BlamesTraitors c.scenario t
blames c s h trees t own inside faithful was same orders told =
    let its : IsScenario c.scenario = subst IsScenario own inside in
    blamed c.scenario (messages c.letters) t its.commander faithful (table_is c h t its was (subst (λ (ts : List LieutenantTree). AreOrders (heard ts)) same orders) told)

pub is_diagram : (c : Chronicle) (s : Scenario) (h : ToldSeen) (trees : List LieutenantTree) (t : MessageTable) (picture : List ℕ) → s ≡ c.scenario → IsScenario s → AreFaithful c → WasTold c.scenario c.letters h
    → trees ≡ h.trees → AreOrders (heard trees) → table_told (table_of c) ≡ Ok t → picture ≡ svg_text t c → IsDiagram c picture
is_diagram c s h trees t picture own inside faithful was same orders told is = (t, told, blames c s h trees t own inside faithful was same orders told, is)

pub of_same : (c own : Chronicle) (picture : List ℕ) → c ≡ own → IsDiagram c picture → IsDiagram own picture
of_same c own picture same drawn = subst (λ (x : Chronicle). IsDiagram x picture) same drawn

pub of_signed : (c own : Chronicle) (picture : List ℕ) → c ≡ own → picture ≡ signed_svg c → picture ≡ signed_svg own
of_signed c own picture same is = is ∙ ap signed_svg same

pub signed_played_drawn : (s : Scenario) (schedule : List (List Repeat)) (c : Chronicle) (picture : List ℕ) → IsScenario s → c ≡ signed_played s schedule → picture ≡ signed_svg c → IsCampaignDrawn (Signed s) schedule picture
signed_played_drawn s schedule c picture is same drawn = ((signed_played_blames s schedule is, of_signed c (signed_played s schedule) picture same drawn), signed_played_kept s schedule is)

pub signed_told_drawn : (s : Scenario) (text bytes : List ℕ) (c : Chronicle) (picture : List ℕ) → IsScenario s → text ≡ bytes → IsSoundSignedText s text → c ≡ signed_chronicle_told s text → picture ≡ signed_svg c → IsRecordDrawn (Signed s) bytes picture
signed_told_drawn s text bytes c picture is same sound told drawn =
    subst (λ (b : List ℕ). IsRecordDrawn (Signed s) b picture) same
    (sound, (signed_told_blames s text is, of_signed c (signed_chronicle_told s text) picture told drawn), signed_told_kept s text is)

-- The rules for a picture of a campaign that is played by a schedule, and for a picture of a chronicle that is read.
pub ruleset played_drawn = (played_wholly, of_same, played_faithful, played_kept)

pub ruleset told_drawn = (told_wholly, of_same, told_faithful, told_kept)
