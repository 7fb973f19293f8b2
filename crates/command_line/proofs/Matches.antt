-- clap's promise for the command.
use Rattle.std.proofs.Common.{◌≡◌, ◌∙◌, true, List, [], ◌∷◌, Ok, Err, refl, sym, ap, subst, inl, inr, ◌⊎◌}
use Rattle.command_line.proofs.Prelude.{App, BadWords, ErrorKind, IsAmong, Kinds, OutOfMemory, Row, Text, fault_of, is_simple, is_simple_and_free}
use Rattle.command_line.proofs.Prelude.{matches_of, orch, rows_of_texts, unless_faulty}

pub is_plain : is_simple orch ≡ true
unfolding orch
is_plain = refl

pub is_plain_and_free : is_simple_and_free orch ≡ true
unfolding orch
is_plain_and_free = refl

pub matches_given : (texts : List Text) (rows : List Row) → fault_of orch texts ≡ [] → rows ≡ matches_of orch texts → rows_of_texts texts ≡ Ok rows
unfolding rows_of_texts
matches_given texts rows none same = ap (λ (kinds : Kinds). unless_faulty kinds (matches_of orch texts)) none ∙ ap Ok (sym same)

some_kind : (kinds : Kinds) (k : ErrorKind) (rows : List Row) → IsAmong k kinds → unless_faulty kinds rows ≡ Err BadWords
some_kind [] k rows h = absurd h
some_kind (x ∷ xs) k rows h = refl

-- an error of another kind than memory comes from the command line
pub no_matches : (app : App) (texts : List Text) (k : ErrorKind) → app ≡ orch → (k ≡ OutOfMemory → ⊥) → (k ≡ OutOfMemory) ⊎ IsAmong k (fault_of app texts) → rows_of_texts texts ≡ Err BadWords
unfolding rows_of_texts
no_matches app texts k is other (inl m) = absurd (other m)
no_matches app texts k is other (inr h) = some_kind _ k _ (subst (λ (a : App). IsAmong k (fault_of a texts)) is h)
