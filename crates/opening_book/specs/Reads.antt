-- Readings of a book: which of its instances were read last.
use Rattle.std.specs.Prelude.{ℕ, ◌≤◌, All, IfSome}
use Rattle.opening_book.specs.Prelude.{BookState}

-- none of the book's instances has a greater read number than this
abbrev pub AreReadWithin : ℕ → BookState → Type 0
AreReadWithin reads b = All (λ x. IfSome x (λ i. i.read ≤ reads)) b.instances
