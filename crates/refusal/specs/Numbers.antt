-- The number of each refusal, and that no two refusals share one.
use Rattle.std.specs.Prelude.{◌≡◌, ℕ}
use Rattle.refusal.specs.declared.Refusal.{Refusal}
use Rattle.refusal.specs.declared.Refusal.TheVariants.{WrongLength, WrongMagic, WrongHeaderSize, ShortExtendedHeader, UnknownFormat, NoShape, OutOfRange, TooManyLevels, WrongEnd, NoSuchPiece, PastFileEnd, OtherLength, PieceOut, TooManyLoans, NumbersUsedUp, LoanNotOut, OtherBorrower, ForeignShelves, OutsideRow, NoSpace, NothingToUndo, OtherDocket, LoansOut, ShelfFull, PastCount, MalformedOrder, OverLimit}

abbrev pub number_of : Refusal → ℕ
number_of WrongLength = 1
number_of WrongMagic = 2
number_of WrongHeaderSize = 3
number_of ShortExtendedHeader = 4
number_of UnknownFormat = 5
number_of NoShape = 6
number_of OutOfRange = 7
number_of TooManyLevels = 8
number_of WrongEnd = 9
number_of NoSuchPiece = 10
number_of PastFileEnd = 11
number_of OtherLength = 12
number_of PieceOut = 13
number_of TooManyLoans = 14
number_of NumbersUsedUp = 15
number_of LoanNotOut = 16
number_of OtherBorrower = 17
number_of ForeignShelves = 18
number_of OutsideRow = 19
number_of NoSpace = 20
number_of NothingToUndo = 21
number_of OtherDocket = 22
number_of LoansOut = 23
number_of ShelfFull = 24
number_of PastCount = 25
number_of MalformedOrder = 26
number_of OverLimit = 27

-- a number that a call answers names one reason and no other
abbrev pub EachNumberIsOneRefusal : Type 0
EachNumberIsOneRefusal = (a b : Refusal) → number_of a ≡ number_of b → a ≡ b
