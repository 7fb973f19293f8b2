use Rattle.std.proofs.Common.{◌≡◌, ◌∙◌, ℕ, Bool, true, false, cond, List, None, refl, sym}
use Rattle.scenario_reader.proofs.Prelude.{IsUtf8, IsUtf8-from_is_utf8, NotJson, fails, false≢true, is_utf8, is_utf8-from_IsUtf8, or_fails, read}
use Rattle.scenario_reader.proofs.walk.json_in.Goals as goal

none_at : (b : Bool) (bytes : List ℕ) → is_utf8 bytes ≡ b → (IsUtf8 bytes → read bytes ≡ None) → or_fails NotJson (cond b (read bytes) None) ≡ fails NotJson
none_at true bytes is none = rw (none (IsUtf8-from_is_utf8 bytes is)) refl
none_at false bytes is none = refl

pub returns-in-Ok : goal.returns-in-Ok
returns-in-Ok c = rw (is_utf8-from_IsUtf8 _ c.in-Ok.ensures.ok.0, c.in-Ok.ensures.ok.1) refl

pub returns-else-is_memory : goal.returns-else-is_memory
returns-else-is_memory c =
    rw c.fails.ensures
    (none_at (is_utf8 c.args.bytes.now) c.args.bytes.now refl
    (c.in-Err.ensures.err (λ m. false≢true (sym c.if-is_memory.false ∙ c.is_memory.ensures.1 m))))
