-- What each refusal means, in the words that a program prints.
use Rattle.std.specs.Prelude.{ℕ, List, ◌++◌, codes, decimal}
use Rattle.refusal.specs.Numbers.{number_of}
use Rattle.refusal.specs.declared.Refusal.{Refusal}
use Rattle.refusal.specs.declared.Refusal.TheVariants.{WrongLength, WrongMagic, WrongHeaderSize, ShortExtendedHeader, UnknownFormat, NoShape, OutOfRange, TooManyLevels, WrongEnd, NoSuchPiece, PastFileEnd, OtherLength, PieceOut, TooManyLoans, NumbersUsedUp, LoanNotOut, OtherBorrower, ForeignShelves, OutsideRow, NoSpace, NothingToUndo, OtherDocket, LoansOut, ShelfFull, PastCount, MalformedOrder, OverLimit}

abbrev pub meaning_of : Refusal → List ℕ
meaning_of WrongLength = codes "file shorter than 128 or longer than 1073741824 bytes"
meaning_of WrongMagic = codes "wrong first four bytes"
meaning_of WrongHeaderSize = codes "header size not 124, or pixel format size not 32"
meaning_of ShortExtendedHeader = codes "extended header in fewer than 148 bytes"
meaning_of UnknownFormat = codes "unknown format"
meaning_of NoShape = codes "no shape"
meaning_of OutOfRange = codes "a side, a volume's depth or the number of elements out of range"
meaning_of TooManyLevels = codes "more levels than the longest chain"
meaning_of WrongEnd = codes "the last piece does not end at the file's end"
meaning_of NoSuchPiece = codes "no such piece"
meaning_of PastFileEnd = codes "place at or past the file's end"
meaning_of OtherLength = codes "the file's length is not the job's"
meaning_of PieceOut = codes "the piece is out"
meaning_of TooManyLoans = codes "32 loans are out"
meaning_of NumbersUsedUp = codes "65535 loan numbers were given"
meaning_of LoanNotOut = codes "loan not out"
meaning_of OtherBorrower = codes "another borrower"
meaning_of ForeignShelves = codes "shelves not the job's"
meaning_of OutsideRow = codes "no bytes, no such row, or past the row's end"
meaning_of NoSpace = codes "marks shelf full, or too little space on the kept shelf"
meaning_of NothingToUndo = codes "the loan has no stroke to take back"
meaning_of OtherDocket = codes "docket of another number"
meaning_of LoansOut = codes "loans are out"
meaning_of ShelfFull = codes "shelf full"
meaning_of PastCount = codes "an end past the shelf's count"
meaning_of MalformedOrder = codes "malformed order line"
meaning_of OverLimit = codes "input over its limit"

-- a refusal as text: its number, then its meaning
abbrev pub refusal_text : Refusal → List ℕ
refusal_text r = codes "refusal " ++ (decimal (number_of r) ++ (codes ": " ++ meaning_of r))
