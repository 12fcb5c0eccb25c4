use Rattle.std.proofs.Common.{◌≡◌, ◌∙◌, Some, subst, sym, true}
use Rattle.clap.specs.Words.{subcommand_rows_of}
use Rattle.cli_words.specs.Asked.{words_of}
use Rattle.cli_words.specs.Met.{has_places, told_by}
use Rattle.cli_words.specs.Tasks.{Told}
use Rattle.cli_words.proofs.CallLemmas.{error_is_refused, misuse_is_told, some_met, task_found, told_among, told_no_misuse, told_not_memory, told_unasked, request_is_asked}
use Rattle.cli_words.proofs.request_reader.request.Goals as goal

pub of-requires : goal.of-requires
of-requires c =
    let found = task_found _ (words_of c.args.words.now) (subcommand_rows_of c.in-Ok.matches) c.in_ok-lab.ensures.shape
    c.in-Ok.ensures.kinds (λ e. (c.in-Ok.ensures.matches e).1) in
    some_met (subcommand_rows_of c.in-Ok.matches) found.task found.met_is

pub request-requires : goal.request-requires
request-requires c =
    let found = task_found _ (words_of c.args.words.now) (subcommand_rows_of c.in-Ok.matches) c.in_ok-lab.ensures.shape
    c.in-Ok.ensures.kinds (λ e. (c.in-Ok.ensures.matches e).1) in
    let task_is : Some (told_by c.of.result) ≡ Some found.task = c.of.ensures ∙ found.met_is in
    let told_is : found.task ≡ told_by c.of.result = cc in
    subst (λ (told : Told). has_places told ≡ true) told_is found.filled

pub returns-in-Ok-clause-found : goal.returns-in-Ok-clause-found
returns-in-Ok-clause-found c =
    let found = task_found _ (words_of c.args.words.now) (subcommand_rows_of c.in-Ok.matches) c.in_ok-lab.ensures.shape
    c.in-Ok.ensures.kinds (λ e. (c.in-Ok.ensures.matches e).1) in
    request_is_asked (words_of c.args.words.now) (told_by c.of.result) (found.spelt_is ∙ sym (c.of.ensures ∙ found.met_is)) c.request.result c.request.ensures.request

pub returns-in-Ok-clause-refused : goal.returns-in-Ok-clause-refused
returns-in-Ok-clause-refused c =
    let found = task_found _ (words_of c.args.words.now) (subcommand_rows_of c.in-Ok.matches) c.in_ok-lab.ensures.shape
    c.in-Ok.ensures.kinds (λ e. (c.in-Ok.ensures.matches e).1) in
    error_is_refused (words_of c.args.words.now) (told_by c.of.result) (found.spelt_is ∙ sym (c.of.ensures ∙ found.met_is)) c.request.result c.request.ensures.refused

pub returns-in-Ok-clause-misused : goal.returns-in-Ok-clause-misused
returns-in-Ok-clause-misused c =
    let found = task_found _ (words_of c.args.words.now) (subcommand_rows_of c.in-Ok.matches) c.in_ok-lab.ensures.shape
    c.in-Ok.ensures.kinds (λ e. (c.in-Ok.ensures.matches e).1) in
    misuse_is_told (words_of c.args.words.now) (told_by c.of.result) (found.spelt_is ∙ sym (c.of.ensures ∙ found.met_is)) c.request.result c.request.ensures.refused

pub returns-in-Err-clause-refused : goal.returns-in-Err-clause-refused
returns-in-Err-clause-refused c =
    told_unasked _ (words_of c.args.words.now) c.in-Err.error c.refused.result c.refused.ensures
    c.in_ok-lab.ensures.shape c.in-Err.ensures.kinds

pub returns-in-Err-clause-kind : goal.returns-in-Err-clause-kind
returns-in-Err-clause-kind c =
    told_among _ (words_of c.args.words.now) c.in-Err.error c.refused.result c.refused.ensures
    c.in_ok-lab.ensures.shape c.in-Err.ensures.kinds

pub returns-in-Err-clause-not_memory : goal.returns-in-Err-clause-not_memory
returns-in-Err-clause-not_memory c = told_not_memory c.in-Err.error c.refused.result c.refused.ensures

pub returns-in-Err-clause-misused : goal.returns-in-Err-clause-misused
returns-in-Err-clause-misused c = told_no_misuse _ c.in-Err.error c.refused.result c.refused.ensures
