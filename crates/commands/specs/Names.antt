-- The commands' names, and what each command needs and uses.
use Rattle.std.specs.Prelude.{ℕ, Bool, ◌&&◌, ◌||◌, not, List, find, Option}
use Rattle.std.specs.Str.{bytes_eq}
use Rattle.commands.specs.declared.name.CommandName.{CommandName}
use Rattle.commands.specs.declared.arguments.Needs.{Needs}
use Rattle.commands.specs.declared.arguments.Uses.{Uses}
use Rattle.commands.specs.Table.{names, needed, row, used}

-- a command's word
abbrev pub word_of : CommandName → List ℕ
word_of name = (row name).word

-- the command of a word
unfoldable pub name_of : List ℕ → Option CommandName
name_of text = find (λ name. bytes_eq text (word_of name)) names

-- the keys that must be there
abbrev pub needs_of : CommandName → Needs
needs_of name = needed (row name).arguments

-- the keys that make a difference if they are there
abbrev pub uses_of : CommandName → Uses
uses_of name = used (row name).arguments

-- each key that is needed is used
abbrev pub covers : Uses → Needs → Bool
covers uses needs = (uses.i || not needs.i) && (uses.d || not needs.d) && (uses.rule || not needs.rule) && (uses.pattern || not needs.pattern)
