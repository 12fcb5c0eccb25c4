-- The header and the sections of an object: the fields that are needed (System V ABI, "ELF Header" and "Sections":
-- Elf64_Ehdr, Elf64_Shdr).
use Rattle.std.specs.Prelude.{ℕ, ◌+◌, ◌*◌, ◌/◌, ◌%◌, List, [], length, Bool, ◌==◌, ◌&&◌, ◌||◌, nat_le, if◌then◌else◌}
use Rattle.object.specs.declared.section.SectionHeader.{SectionHeader}
use Rattle.object.specs.Number.{number_at, window}

-- Returns whether the file is an object for BPF: it begins with 7f 45 4c 46 (e_ident), has 64 bits (2), is
-- little-endian (1), relocatable (e_type 1), and for BPF (e_machine 247).
abbrev pub is_bpf_object : List ℕ → Bool
is_bpf_object object =
    (number_at 4 0 object == 1179403647) && (number_at 1 4 object == 2) && (number_at 1 5 object == 1) &&
    (number_at 2 16 object == 1) && (number_at 2 18 object == 247)

-- Returns the number of sections (e_shnum).
abbrev pub section_count : List ℕ → ℕ
section_count object = number_at 2 60 object

-- Returns the section header table: headers of 64 bytes each, from index e_shoff on.
abbrev pub section_table : List ℕ → List ℕ
section_table object = window (number_at 8 40 object) (64 * section_count object) object

-- Returns whether the object's header and the section header table are within the file, and e_shentsize is 64.
abbrev pub is_table_whole : List ℕ → Bool
is_table_whole object =
    nat_le 64 (length object) && (number_at 2 58 object == 64)
    && (length (section_table object) == 64 * section_count object)

-- Returns the header of the section with this index: sh_type, sh_flags, sh_offset, sh_size, sh_link and sh_info. Fields
-- past the end of the table are zero.
abbrev pub section_at : ℕ → List ℕ → SectionHeader
section_at index table = record {
  kind = number_at 4 (64 * index + 4) table;
  flags = number_at 8 (64 * index + 8) table;
  start = number_at 8 (64 * index + 24) table;
  size = number_at 8 (64 * index + 32) table;
  link = number_at 4 (64 * index + 40) table;
  info = number_at 4 (64 * index + 44) table;
}

-- Returns whether the section has no bytes in the file (SHT_NULL or SHT_NOBITS).
abbrev pub has_no_bytes : SectionHeader → Bool
has_no_bytes section = (section.kind == 0) || (section.kind == 8)

-- Returns the bytes of a section, or no bytes if it has none or they are not within the file.
unfoldable pub section_bytes : List ℕ → SectionHeader → List ℕ
section_bytes object section = if has_no_bytes section then [] else window section.start section.size object

-- Returns whether the section has executable code (SHT_PROGBITS with SHF_EXECINSTR).
abbrev pub is_code : SectionHeader → Bool
is_code section = (section.kind == 1) && (section.flags / 4 % 2 == 1)

-- Returns whether the section has relocations (SHT_REL or SHT_RELA).
abbrev pub is_relocations : SectionHeader → Bool
is_relocations section = (section.kind == 9) || (section.kind == 4)
