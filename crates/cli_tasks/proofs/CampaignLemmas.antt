-- Lemmas about the texts that `play`, `muster` and `audit` print.
use Rattle.std.proofs.Common.{ℕ, suc, ◌≡◌, ◌∙◌, ◌++◌, ◌∷◌, [], List, Option, None, Some, ap, append_assoc, append-nil, refl, subst, sym}
use Rattle.cli_words.specs.declared.tasks.Account.{Account}
use Rattle.cli_words.specs.declared.tasks.Lieutenants.{Lieutenants}
use Rattle.round.specs.Scenario.{Scenario, IsScenario}
use Rattle.world.specs.declared.schedule.Repeat.{Repeat}
use Rattle.world.specs.Chronicle.{Chronicle, chronicle_of}
use Rattle.world.specs.Promises.{AgreeIfTolerable, AreSafeThroughout, AreWhole, IsVerdictOn, IsWellUnderBound}
use Rattle.world.proofs.Campaigns.{oral_campaigns}
use Rattle.world.proofs.Lasting.{lists_are_complete}
use Rattle.world.proofs.Promised.{safe_throughout, whole_letters}
use Rattle.show_table.specs.Retold.{Explains, IsWhole}
use Rattle.show_table.proofs.Rounds.{played_whole, replayed_whole}
use Rattle.trace.specs.Laws.{IsSoundText}
use Rattle.trace.specs.Names.{chronicle_told, names_of}
use Rattle.trace.specs.Text.{chronicle_text}
use Rattle.cli_tasks.specs.AuditLines.{sound_lines}
use Rattle.world.specs.KindLists.{IsComplete, replay_world, replayed}
use Rattle.world.specs.Lists.{listed, names_in}
use Rattle.world.specs.Replay.{replay_of}
use Rattle.world.specs.World.{oral_kind}
use Rattle.world.specs.Schedules.{lines_by}
use Rattle.signed.specs.Chronicle.{signed_chronicle_of}
use Rattle.signed.specs.Explained.{signed_explained}
use Rattle.signed.specs.Kind.{signed_kind}
use Rattle.signed.specs.Promises.{AgreeUnderSignedBound, IsSignedVerdictOn}
use Rattle.signed.proofs.Worlds.{signed_campaigns}
use Rattle.trace.specs.SignedAudit.{IsSoundSignedText, signed_chronicle_told}
use Rattle.trace.specs.SignedText.{signed_text}
use Rattle.trial.specs.Notes.{campaign_notes}
use Rattle.cli_tasks.specs.Campaigns.{IsAccount, IsFollowed, IsOralAudited, IsOralMustered, IsOralPlayed, IsSignedAudited, IsSignedMustered, IsSignedPlayed, asked, signed_behind}
use Rattle.cli_tasks.specs.Promises.{IsCompleteRun}
use Rattle.cli_tasks.specs.Schedules.{played, signed_played}

-- The text that `play` prints, from its parts: the chronicle or table, the explanation, and the facts about the run.
pub is_played : (s : Scenario) (schedule : List (List Repeat)) (account : Account) (explained : Option Lieutenants) (chronicle : Chronicle) (front text : List ℕ) → chronicle ≡ played s schedule
    → IsComplete oral_kind s (listed s (lines_by schedule)) → AreSafeThroughout oral_kind s (listed s (lines_by schedule)) → AreWhole oral_kind s chronicle.accesses chronicle.letters
    → AgreeIfTolerable s chronicle.decisions → IsVerdictOn s chronicle.decisions chronicle.verdict → IsWellUnderBound chronicle.verdict
    → IsAccount account chronicle front → IsFollowed explained chronicle front text → IsOralPlayed s schedule account explained text
is_played s schedule account explained chronicle front text listed complete safe whole agree verdict well told followed = record {
  front = front;
  told = subst (λ (c : Chronicle). IsAccount account c front) listed told;
  behind = subst (λ (c : Chronicle). IsFollowed explained c front text) listed followed;
  run = record { complete = complete; safe = safe; whole = subst (λ (c : Chronicle). AreWhole oral_kind s c.accesses c.letters) listed whole };
  agree = subst (λ (c : Chronicle). AgreeIfTolerable s c.decisions) listed agree;
  verdict = subst (λ (c : Chronicle). IsVerdictOn s c.decisions c.verdict) listed verdict;
  well = subst (λ (c : Chronicle). IsWellUnderBound c.verdict) listed well;
}

-- The chronicle of a campaign that is played by a schedule is whole.
pub played_wholly : (s : Scenario) (schedule : List (List Repeat)) (c : Chronicle) → IsScenario s → c ≡ played s schedule → IsWhole c
played_wholly s schedule c inside is = played_whole s (lines_by schedule) c inside is

-- The chronicle of a run with threads is whole.
pub mustered_wholly : (s : Scenario) (c : Chronicle) → IsScenario s → c ≡ chronicle_of (replay_of s c.accesses) → IsWhole c
mustered_wholly s c inside is = replayed_whole s (names_in 1 c.accesses (suc s.bound)) c inside is

-- The chronicle in a text that is audited is whole.
pub told_wholly : (s : Scenario) (bytes : List ℕ) (c : Chronicle) → IsScenario s → c ≡ chronicle_told s bytes → IsWhole c
unfolding chronicle_told
told_wholly s bytes c inside is = replayed_whole s (names_of bytes) c inside is

-- The text that `muster` prints for an oral campaign, from its parts: the chronicle, the explanation, and the facts
-- about the run.
pub is_mustered : (s : Scenario) (explained : Option Lieutenants) (c : Chronicle) (front text : List ℕ) → front ≡ chronicle_text c → IsFollowed explained c front text
    → c ≡ chronicle_of (replay_of s c.accesses) → IsComplete oral_kind s (replayed oral_kind s (names_in 1 c.accesses (suc s.bound)))
    → AreSafeThroughout oral_kind s (replayed oral_kind s (names_in 1 c.accesses (suc s.bound))) → AreWhole oral_kind s c.accesses c.letters
    → AgreeIfTolerable s c.decisions → IsVerdictOn s c.decisions c.verdict → IsWellUnderBound c.verdict → IsOralMustered s explained text
is_mustered s explained c front text is behind replay complete safe whole agree verdict well = record {
  chronicle = c;
  told = subst (λ (f : List ℕ). IsFollowed explained c f text) is behind;
  replay = replay;
  run = record { complete = complete; safe = safe; whole = whole };
  agree = agree;
  verdict = verdict;
  well = well;
}

-- The text that `muster` prints for a signed campaign, from its parts: the chronicle, the explanation, and the facts
-- about the run.
pub is_signed_mustered : (s : Scenario) (explained : Option Lieutenants) (c : Chronicle) (front text : List ℕ) → front ≡ signed_text c → text ≡ front ++ signed_behind explained c
    → c ≡ signed_chronicle_of (replay_world signed_kind s c.accesses) → IsComplete signed_kind s (replayed signed_kind s (names_in 1 c.accesses (suc s.bound)))
    → AreSafeThroughout signed_kind s (replayed signed_kind s (names_in 1 c.accesses (suc s.bound))) → AreWhole signed_kind s c.accesses c.letters
    → AgreeUnderSignedBound s c.decisions → IsSignedVerdictOn s c.decisions c.verdict → IsWellUnderBound c.verdict → IsSignedMustered s explained text
is_signed_mustered s explained c front text is behind replay complete safe whole agree verdict well = record {
  chronicle = c;
  told = behind ∙ ap (λ (f : List ℕ). f ++ signed_behind explained c) is;
  replay = replay;
  run = record { complete = complete; safe = safe; whole = whole };
  agree = agree;
  verdict = verdict;
  well = well;
}

-- The replay of the accesses that a chronicle lists is a complete run.
audited_run : (s : Scenario) (bytes : List ℕ) → IsScenario s → IsCompleteRun oral_kind s (replayed oral_kind s (names_of bytes)) (chronicle_told s bytes)
unfolding chronicle_told
audited_run s bytes inside =
    let events = replayed oral_kind s (names_of bytes) in
    let complete = (lists_are_complete oral_kind oral_campaigns).replayed s (names_of bytes) inside in
    record {
      complete = complete;
      safe = safe_throughout oral_kind oral_campaigns s events inside;
      whole = whole_letters oral_kind oral_campaigns s events inside complete;
    }

-- The replay of the accesses that a signed chronicle lists is a complete run.
signed_audited_run : (s : Scenario) (bytes : List ℕ) → IsScenario s → IsCompleteRun signed_kind s (replayed signed_kind s (names_of bytes)) (signed_chronicle_told s bytes)
unfolding signed_chronicle_told
signed_audited_run s bytes inside =
    let events = replayed signed_kind s (names_of bytes) in
    let complete = (lists_are_complete signed_kind signed_campaigns).replayed s (names_of bytes) inside in
    record {
      complete = complete;
      safe = safe_throughout signed_kind signed_campaigns s events inside;
      whole = whole_letters signed_kind signed_campaigns s events inside complete;
    }

-- The text that `audit` prints for an oral campaign, from its parts: the two lines and the explanation.
pub is_audited : (s : Scenario) (explained : Option Lieutenants) (bytes : List ℕ) (c : Chronicle) (front text : List ℕ) → IsScenario s → IsSoundText s bytes → c ≡ chronicle_told s bytes
    → front ≡ sound_lines c.verdict → IsFollowed explained c front text → IsOralAudited s explained bytes text
is_audited s explained bytes c front text inside sound is lines behind =
    let first : IsFollowed explained (chronicle_told s bytes) front text = subst (λ (x : Chronicle). IsFollowed explained x front text) is behind in
    let same : front ≡ sound_lines (chronicle_told s bytes).verdict = lines ∙ ap (λ (x : Chronicle). sound_lines x.verdict) is in
    record { sound = sound; run = audited_run s bytes inside; told = subst (λ (f : List ℕ). IsFollowed explained (chronicle_told s bytes) f text) same first }

-- If no explanation is asked for, the text is unchanged.
pub alone : (c : Chronicle) (front : List ℕ) → IsFollowed None c front front
alone c front = ([], sym (append-nil front), refl)

-- If no explanation is asked for, the text of a signed campaign is unchanged.
pub signed_alone : (c : Chronicle) (front : List ℕ) → front ≡ front ++ signed_behind None c
signed_alone c front = sym (append-nil front)

pub signed_followed : (who : Lieutenants) (c : Chronicle) (front lines notes text : List ℕ) → lines ≡ signed_explained c (asked who) → notes ≡ campaign_notes c.letters
    → text ≡ front ++ 10 ∷ (lines ++ notes) → text ≡ front ++ signed_behind (Some who) c
signed_followed who c front lines notes text explains noted is =
    is ∙ (ap (λ (xs : List ℕ). front ++ 10 ∷ (xs ++ notes)) explains ∙ ap (λ (xs : List ℕ). front ++ 10 ∷ (signed_explained c (asked who) ++ xs)) noted)

-- A text that is followed by an empty line, the explanation and the notes is what `IsFollowed` states.
pub followed : (who : Lieutenants) (c : Chronicle) (front lines notes text : List ℕ) → Explains c (asked who) lines → notes ≡ campaign_notes c.letters
    → text ≡ front ++ 10 ∷ (lines ++ notes) → IsFollowed (Some who) c front text
followed who c front lines notes text explains noted is = (10 ∷ (lines ++ notes), is, (lines, ap (λ (xs : List ℕ). 10 ∷ (lines ++ xs)) noted, explains))

-- The text that `play` prints for a signed campaign, from its parts: the chronicle, the explanation, and the facts
-- about the run.
pub is_signed_played : (s : Scenario) (schedule : List (List Repeat)) (explained : Option Lieutenants) (chronicle : Chronicle) (front text : List ℕ) → chronicle ≡ signed_played s schedule
    → IsComplete signed_kind s (listed s (lines_by schedule))
    → AreSafeThroughout signed_kind s (listed s (lines_by schedule)) → AreWhole signed_kind s chronicle.accesses chronicle.letters
    → AgreeUnderSignedBound s chronicle.decisions → IsSignedVerdictOn s chronicle.decisions chronicle.verdict → IsWellUnderBound chronicle.verdict
    → front ≡ signed_text chronicle → text ≡ front ++ signed_behind explained chronicle → IsSignedPlayed s schedule explained text
is_signed_played s schedule explained chronicle front text listed complete safe whole agree verdict well told behind = record {
  told = behind ∙ (ap (λ (f : List ℕ). f ++ signed_behind explained chronicle) told ∙ ap (λ (c : Chronicle). signed_text c ++ signed_behind explained c) listed);
  run = record { complete = complete; safe = safe; whole = subst (λ (c : Chronicle). AreWhole signed_kind s c.accesses c.letters) listed whole };
  agree = subst (λ (c : Chronicle). AgreeUnderSignedBound s c.decisions) listed agree;
  verdict = subst (λ (c : Chronicle). IsSignedVerdictOn s c.decisions c.verdict) listed verdict;
  well = subst (λ (c : Chronicle). IsWellUnderBound c.verdict) listed well;
}

-- The text that `audit` prints for a signed campaign, from its parts: the two lines and the explanation.
pub is_signed_audited : (s : Scenario) (explained : Option Lieutenants) (bytes : List ℕ) (c : Chronicle) (front text : List ℕ) → IsScenario s → IsSoundSignedText s bytes → c ≡ signed_chronicle_told s bytes
    → front ≡ sound_lines c.verdict → text ≡ front ++ signed_behind explained c → IsSignedAudited s explained bytes text
is_signed_audited s explained bytes c front text inside sound is lines behind = record {
  sound = sound;
  run = signed_audited_run s bytes inside;
  told = behind ∙ (ap (λ (f : List ℕ). f ++ signed_behind explained c) lines ∙ ap (λ (x : Chronicle). sound_lines x.verdict ++ signed_behind explained x) is);
}

-- Appending a line feed, lines and notes to a text gives the text, the line feed, the lines and the notes.
pub behind_lines : (front lines notes text : List ℕ) → text ≡ ((front ++ 10 ∷ []) ++ lines) ++ notes → text ≡ front ++ 10 ∷ (lines ++ notes)
behind_lines front lines notes text is = is ∙ (append_assoc (front ++ 10 ∷ []) lines notes ∙ append_assoc front (10 ∷ []) (lines ++ notes))
