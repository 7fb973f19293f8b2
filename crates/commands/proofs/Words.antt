-- The commands' names are read as the commands.
use Rattle.std.proofs.Common.{◌≡◌, ℕ, List, [], ◌∷◌, cond, subst, Some, Option, Bool, true, false, refl, sym, find}
use Rattle.std.specs.Str.{bytes_eq}
use Rattle.std.specs.Cmp.Lexicographic.{same_text}
use Rattle.std.proofs.lemmas.Option.{same_Some}
use Rattle.commands.specs.declared.name.CommandName.{CommandName}
use Rattle.commands.specs.declared.name.CommandName.TheVariants.{MoveUp}
use Rattle.commands.specs.Names.{name_of, word_of}
use Rattle.commands.specs.Table.{names}

pub name_of-word_of : (name : CommandName) → name_of (word_of name) ≡ Some name
unfolding name_of
name_of-word_of MoveUp = refl
name_of-word_of _ = refl

found-passes_case : (text : List ℕ) (n : CommandName) (rest : Option CommandName) (name : CommandName) (passes : Bool) → bytes_eq text (word_of n) ≡ passes
    → (rest ≡ Some name → bytes_eq text (word_of name) ≡ true) → cond passes (Some n) rest ≡ Some name → bytes_eq text (word_of name) ≡ true
found-passes_case text n rest name true e later found = subst (λ (m : CommandName). bytes_eq text (word_of m) ≡ true) (same_Some n name found) e
found-passes_case text n rest name false e later found = later found

-- the name that is found passes the test
found-passes : (text : List ℕ) (all : List CommandName) (name : CommandName) → find (λ n. bytes_eq text (word_of n)) all ≡ Some name → bytes_eq text (word_of name) ≡ true
found-passes text [] name found = cc
found-passes text (n ∷ ns) name found =
    found-passes_case text n (find (λ m. bytes_eq text (word_of m)) ns) name (bytes_eq text (word_of n)) refl (found-passes text ns name) found

pub word_of-name_of : (text : List ℕ) (name : CommandName) → name_of text ≡ Some name → text ≡ word_of name
unfolding name_of
word_of-name_of text name found = same_text text (word_of name) (sym (found-passes text names name found))
