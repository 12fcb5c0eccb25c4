-- Defines the usages of the subcommands: their names, places and flags (own).
use Rattle.std.specs.Prelude.{List, [], ◌∷◌, Option, codes, find}
use Rattle.std.specs.Str.{bytes_eq}
use Rattle.cli_words.specs.Usage.{Text, Usage, letter, option, switch}

abbrev pub check : Usage
check = record {
  name = codes "check";
  places = codes "FILE" ∷ [];
  flags = switch (codes "asm") ∷ switch (codes "elf") ∷ switch (codes "explain") ∷ switch (codes "trace") ∷ switch
      (codes "json") ∷ switch (codes "verdicts") ∷ option (codes "context") ∷ option (codes "entry") ∷ [];
}

abbrev pub asm : Usage
asm = record {
  name = codes "asm";
  places = codes "FILE" ∷ [];
  flags = switch (codes "raw") ∷ switch (codes "explain") ∷ switch (codes "partial") ∷ letter (codes "target") 111 ∷ [];
}

abbrev pub dis : Usage
dis = record {
  name = codes "dis";
  places = codes "FILE" ∷ [];
  flags = switch (codes "elf") ∷ switch (codes "units") ∷ switch (codes "explain") ∷ switch (codes "partial") ∷ option
      (codes "entry") ∷ [];
}

abbrev pub book : Usage
book = record {
  name = codes "book";
  places = codes "FILE" ∷ [];
  flags = switch (codes "explain") ∷ switch (codes "json") ∷ option (codes "traitors") ∷ [];
}

abbrev pub table : Usage
table = record {
  name = codes "table";
  places = codes "GENERALS" ∷ codes "BOUND" ∷ codes "COMMANDER" ∷ [];
  flags = option (codes "loyal") ∷ option (codes "lie") ∷ [];
}

abbrev pub refute : Usage
refute = record {
  name = codes "refute";
  places = codes "GENERALS" ∷ codes "BOUND" ∷ codes "COMMANDER" ∷ [];
  flags = option (codes "rule") ∷ option (codes "story") ∷ switch (codes "scenario") ∷ [];
}

abbrev pub exhaust : Usage
exhaust = record {
  name = codes "exhaust";
  places = [];
  flags = switch (codes "json") ∷ option (codes "generals") ∷ option (codes "bound") ∷ option (codes "traitors") ∷ option
      (codes "commander")
      ∷ option (codes "rule") ∷ switch (codes "scenario") ∷ [];
}

abbrev pub rule : Usage
rule = record {
  name = codes "rule";
  places = codes "FILE" ∷ [];
  flags = switch (codes "asm") ∷ switch (codes "elf") ∷ switch (codes "json") ∷ option (codes "entry") ∷ option
      (codes "generals") ∷ [];
}

abbrev pub muster : Usage
muster = record {
  name = codes "muster";
  places = codes "SCENARIO" ∷ [];
  flags = switch (codes "explain") ∷ switch (codes "json") ∷ option (codes "of") ∷ switch (codes "no-files") ∷ [];
}

abbrev pub play : Usage
play = record {
  name = codes "play";
  places = codes "SCENARIO" ∷ [];
  flags = switch (codes "table") ∷ switch (codes "explain") ∷ switch (codes "json") ∷ switch (codes "verdicts") ∷ option
      (codes "schedule")
      ∷ option (codes "seed") ∷ option (codes "schedule-out") ∷ option (codes "of") ∷ switch (codes "no-files") ∷ [];
}

abbrev pub audit : Usage
audit = record {
  name = codes "audit";
  places = codes "SCENARIO" ∷ codes "CHRONICLE" ∷ [];
  flags = switch (codes "explain") ∷ switch (codes "json") ∷ switch (codes "verdicts") ∷ option (codes "of") ∷ switch (codes "no-files") ∷ [];
}

abbrev pub explore : Usage
explore = record {
  name = codes "explore";
  places = codes "SCENARIO" ∷ [];
  flags = option (codes "most") ∷ option (codes "keep") ∷ switch (codes "no-files") ∷ [];
}

abbrev pub tree : Usage
tree = record {
  name = codes "tree";
  places = codes "FILE" ∷ [];
  flags = switch (codes "text") ∷ switch (codes "ascii") ∷ switch (codes "dot") ∷ switch (codes "svg")
      ∷ switch (codes "fold") ∷ option (codes "of") ∷ option (codes "traitors") ∷ option (codes "depth") ∷ switch (codes "no-files") ∷ [];
}

abbrev pub draw : Usage
draw = record {
  name = codes "draw";
  places = codes "SCENARIO" ∷ [];
  flags = option (codes "schedule") ∷ option (codes "chronicle") ∷ switch (codes "no-files") ∷ [];
}

abbrev pub page : Usage
page = record {
  name = codes "page";
  places = codes "SCENARIO" ∷ [];
  flags = option (codes "schedule") ∷ option (codes "chronicle") ∷ letter (codes "target") 111 ∷ switch (codes "no-files") ∷ [];
}

abbrev pub schedule : Usage
schedule = record {
  name = codes "schedule";
  places = codes "SCENARIO" ∷ codes "CHRONICLE" ∷ [];
  flags = switch (codes "accesses") ∷ switch (codes "no-files") ∷ [];
}

-- The usages of all subcommands, in the order in which the help lists them.
abbrev pub usages : List Usage
usages = check ∷ asm ∷ dis ∷ book ∷ table ∷ refute ∷ exhaust ∷ rule ∷ muster ∷ play ∷ audit ∷ explore ∷ tree ∷ draw ∷ page ∷ schedule ∷ []

-- Returns the usage of the subcommand with this name, or `None` if there is none.
abbrev pub usage_named : Text → Option Usage
usage_named name = find (λ usage. bytes_eq usage.name name) usages
