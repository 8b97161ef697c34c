-- The lines that tell faults.
use Rattle.std.proofs.Common.{refl, lit<, lit≤}
use Rattle.std.proofs.lemmas.Fmt.{decimal_digit}
use Rattle.line_api.proofs.Constants.{two_digits}
use Rattle.programs.proofs.faults.fault_line.Goals as goal

pub returns-in-NoRing : goal.returns-in-NoRing
returns-in-NoRing c = rw (c.in-NoRing.is, decimal_digit 1 (lit< tt)) refl

pub returns-in-RingExists : goal.returns-in-RingExists
returns-in-RingExists c = rw (c.in-RingExists.is, decimal_digit 2 (lit< tt)) refl

pub returns-in-TooManyRings : goal.returns-in-TooManyRings
returns-in-TooManyRings c = rw (c.in-TooManyRings.is, decimal_digit 3 (lit< tt)) refl

pub returns-in-TooFewDevices : goal.returns-in-TooFewDevices
returns-in-TooFewDevices c = rw (c.in-TooFewDevices.is, decimal_digit 9 (lit< tt)) refl

pub returns-in-NotAssigned : goal.returns-in-NotAssigned
returns-in-NotAssigned c = rw (c.in-NotAssigned.is, two_digits 1 0 (lit≤ tt) (lit< tt) (lit< tt)) refl

pub returns-in-Unreadable : goal.returns-in-Unreadable
returns-in-Unreadable c = rw (c.in-Unreadable.is, two_digits 2 0 (lit≤ tt) (lit< tt) (lit< tt)) refl

pub returns-in-NoMemory : goal.returns-in-NoMemory
returns-in-NoMemory c = rw (c.in-NoMemory.is, two_digits 2 3 (lit≤ tt) (lit< tt) (lit< tt)) refl

pub returns-in-StoreFault : goal.returns-in-StoreFault
returns-in-StoreFault c = rw (c.in-StoreFault.is, two_digits 2 4 (lit≤ tt) (lit< tt) (lit< tt)) refl

pub returns-in-BadStore : goal.returns-in-BadStore
returns-in-BadStore c = rw (c.in-BadStore.is, two_digits 2 6 (lit≤ tt) (lit< tt) (lit< tt)) refl

pub returns-in-NoFile : goal.returns-in-NoFile
returns-in-NoFile c = rw (c.in-NoFile.is, two_digits 2 7 (lit≤ tt) (lit< tt) (lit< tt)) refl

pub returns-in-NetFailed : goal.returns-in-NetFailed
returns-in-NetFailed c = rw (c.in-NetFailed.is, two_digits 2 8 (lit≤ tt) (lit< tt) (lit< tt)) refl

pub returns-in-TooLong : goal.returns-in-TooLong
returns-in-TooLong c = rw (c.in-TooLong.is, two_digits 2 9 (lit≤ tt) (lit< tt) (lit< tt)) refl

pub returns-in-BadPath : goal.returns-in-BadPath
returns-in-BadPath c = rw (c.in-BadPath.is, two_digits 3 0 (lit≤ tt) (lit< tt) (lit< tt)) refl

pub returns-in-BadText : goal.returns-in-BadText
returns-in-BadText c = rw (c.in-BadText.is, two_digits 3 1 (lit≤ tt) (lit< tt) (lit< tt)) refl

pub returns-in-NoVersion : goal.returns-in-NoVersion
returns-in-NoVersion c = rw (c.in-NoVersion.is, two_digits 3 2 (lit≤ tt) (lit< tt) (lit< tt)) refl

pub returns-in-ClockAhead : goal.returns-in-ClockAhead
returns-in-ClockAhead c = rw (c.in-ClockAhead.is, two_digits 3 3 (lit≤ tt) (lit< tt) (lit< tt)) refl

pub returns-in-ReadFailed : goal.returns-in-ReadFailed
returns-in-ReadFailed c = rw (c.in-ReadFailed.is, two_digits 5 0 (lit≤ tt) (lit< tt) (lit< tt)) refl

pub returns-in-WriteFailed : goal.returns-in-WriteFailed
returns-in-WriteFailed c = rw (c.in-WriteFailed.is, two_digits 5 1 (lit≤ tt) (lit< tt) (lit< tt)) refl
