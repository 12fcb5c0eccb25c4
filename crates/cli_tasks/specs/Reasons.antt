-- Defines the sentences that explain why the operating system could not read or write a file.
use Rattle.std.specs.Prelude.{ℕ, List, codes}
use Rattle.std.specs.declared.io.ErrorKind.{ErrorKind}
use Rattle.std.specs.declared.io.ErrorKind.TheVariants.{NotFound, PermissionDenied, IsADirectory, NotADirectory, InvalidFilename, FilesystemLoop, FileTooLarge, ReadOnlyFilesystem, StorageFull, BrokenPipe}

-- Returns the sentence for a system error of this kind.
abbrev pub reason_text : ErrorKind → List ℕ
reason_text NotFound = codes "there is no file with this name"
reason_text PermissionDenied = codes "the system does not permit it"
reason_text IsADirectory = codes "it is a folder"
reason_text NotADirectory = codes "a part of its path is not a folder"
reason_text InvalidFilename = codes "its name is longer than the system allows"
reason_text FilesystemLoop = codes "its path has too many links"
reason_text FileTooLarge = codes "it is larger than it may be"
reason_text ReadOnlyFilesystem = codes "its file system is read-only"
reason_text StorageFull = codes "there is no space left for it"
reason_text BrokenPipe = codes "its reader has closed it"
reason_text _ = codes "the system gives no known reason"
