-- Lemmas about the page of an oral campaign's chronicle.
use Rattle.std.proofs.Common.{ℕ, ◌≡◌, ◌≤◌, ◌∙◌, List, None, Option, Ok, Some, ap, length, subst, sym}
use Rattle.book.specs.Grammar.{table_told}
use Rattle.book.specs.Table.{MessageTable}
use Rattle.show_page.specs.Account.{page_text}
use Rattle.show_page.specs.Room.{longest_page}
use Rattle.show_page.proofs.ShortLaws.{proved_campaign_pages_are_short}
use Rattle.show_table.specs.Retold.{table_of}
use Rattle.round.specs.Scenario.{Scenario, IsScenario}
use Rattle.round.specs.Told.{ToldSeen, WasTold}
use Rattle.scenario.specs.declared.messages.Campaign.TheVariants.{Signed}
use Rattle.signed.specs.Kind.{signed_kind}
use Rattle.signed.proofs.Concluding.{same_scenario}
use Rattle.show_page.specs.SignedAccount.{signed_page_text}
use Rattle.show_page.proofs.SignedShortLaws.{proved_signed_pages_are_short}
use Rattle.book.specs.Hearing.{heard}
use Rattle.book.specs.WrittenLaws.{AreOrders}
use Rattle.tree.specs.LieutenantTree.{LieutenantTree}
use Rattle.trace.specs.Names.{names_of}
use Rattle.trace.specs.SignedAudit.{IsSoundSignedText, signed_chronicle_told}
use Rattle.world.specs.Chronicle.{Chronicle}
use Rattle.world.specs.KindLists.{listed, replayed}
use Rattle.world.specs.Schedules.{lines_by}
use Rattle.world.specs.declared.schedule.Repeat.{Repeat}
use Rattle.cli_tasks.specs.Schedules.{signed_played}
use Rattle.cli_tasks.specs.Pages.{IsCampaignPaged, IsPage, IsRecordTold}
use Rattle.cli_tasks.specs.Promises.{AreFaithful}
use Rattle.cli_tasks.proofs.BlameLemmas.{signed_played_blames, signed_told_blames}
use Rattle.cli_tasks.proofs.DiagramLemmas.{blames, played_wholly, told_wholly}
use Rattle.cli_tasks.proofs.PromiseLemmas.{played_faithful, played_kept, signed_played_kept, signed_told_kept, told_faithful, told_kept}

-- ---- the length of the page

short : (scenario : List ℕ) (schedule : Option (List (List Repeat))) (t : MessageTable) (c : Chronicle) (s : Scenario) (page : List ℕ) → s ≡ c.scenario → IsScenario s → page ≡ page_text scenario schedule t c → length page ≤ longest_page
short scenario schedule t c s page own inside is =
    subst (λ (x : List ℕ). length x ≤ longest_page) (sym is) (proved_campaign_pages_are_short scenario schedule t c (subst IsScenario own inside))

signed_short : (scenario : List ℕ) (schedule : Option (List (List Repeat))) (c : Chronicle) (s : Scenario) (page : List ℕ) → c.scenario ≡ s → IsScenario s → page ≡ signed_page_text scenario schedule c → length page ≤ longest_page
signed_short scenario schedule c s page own inside is =
    subst (λ (x : List ℕ). length x ≤ longest_page) (sym is) (proved_signed_pages_are_short scenario schedule c (subst IsScenario (sym own) inside))

played_scenario : (s : Scenario) (schedule : List (List Repeat)) → (signed_played s schedule).scenario ≡ s
played_scenario s schedule = same_scenario s (listed s (lines_by schedule))

told_scenario : (s : Scenario) (bytes : List ℕ) → (signed_chronicle_told s bytes).scenario ≡ s
unfolding signed_chronicle_told
told_scenario s bytes = same_scenario s (replayed signed_kind s (names_of bytes))

-- ---- the content of the page

pub is_page : (scenario : List ℕ) (schedule : Option (List (List Repeat))) (c : Chronicle) (s : Scenario) (h : ToldSeen) (trees : List LieutenantTree) (t : MessageTable) (page : List ℕ)
    → s ≡ c.scenario → IsScenario s → AreFaithful c → WasTold c.scenario c.letters h → trees ≡ h.trees → AreOrders (heard trees) → table_told (table_of c) ≡ Ok t
    → page ≡ page_text scenario schedule t c → IsPage scenario schedule c page
is_page scenario schedule c s h trees t page own inside faithful was same orders told is =
    (t, told, blames c s h trees t own inside faithful was same orders told, is, short scenario schedule t c s page own inside is)

pub of_same : (scenario : List ℕ) (schedule : Option (List (List Repeat))) (c own : Chronicle) (page : List ℕ) → c ≡ own → IsPage scenario schedule c page → IsPage scenario schedule own page
of_same scenario schedule c own page same told = subst (λ (x : Chronicle). IsPage scenario schedule x page) same told

pub of_signed : (scenario : List ℕ) (schedule : Option (List (List Repeat))) (c own : Chronicle) (page : List ℕ)
    → c ≡ own → page ≡ signed_page_text scenario schedule c → page ≡ signed_page_text scenario schedule own
of_signed scenario schedule c own page same is = is ∙ ap (signed_page_text scenario schedule) same

pub signed_played_paged : (s : Scenario) (text : List ℕ) (schedule : List (List Repeat)) (c : Chronicle) (page : List ℕ) → IsScenario s → c ≡ signed_played s schedule → page ≡ signed_page_text text (Some schedule) c → IsCampaignPaged (Signed s) text schedule page
signed_played_paged s text schedule c page is same told =
    let own : page ≡ signed_page_text text (Some schedule) (signed_played s schedule) = of_signed text (Some schedule) c (signed_played s schedule) page same told in
    ((signed_played_blames s schedule is, own, signed_short text (Some schedule) (signed_played s schedule) s page (played_scenario s schedule) is own), signed_played_kept s schedule is)

pub signed_told_paged : (s : Scenario) (text record_text bytes : List ℕ) (c : Chronicle) (page : List ℕ) → IsScenario s → record_text ≡ bytes → IsSoundSignedText s record_text → c ≡ signed_chronicle_told s record_text → page ≡ signed_page_text text None c
    → IsRecordTold (Signed s) text bytes page
signed_told_paged s text record_text bytes c page is same sound comes told =
    let own : page ≡ signed_page_text text None (signed_chronicle_told s record_text) = of_signed text None c (signed_chronicle_told s record_text) page comes told in
    subst (λ (b : List ℕ). IsRecordTold (Signed s) text b page) same
    (sound, (signed_told_blames s record_text is, own, signed_short text None (signed_chronicle_told s record_text) s page (told_scenario s record_text) is own), signed_told_kept s record_text is)

-- The rules for a page of a campaign that is played by a schedule, and for a page of a chronicle that is read.
pub ruleset played_paged = (played_wholly, of_same, played_faithful, played_kept)

pub ruleset told_paged = (told_wholly, of_same, told_faithful, told_kept)
