-- What `strip_prefix` gives, by this crate's definitions.
use Rattle.std.proofs.Common.{◌≡◌, ℕ, true, false, List, drop, Option, Some, None, option_map, MatchOption, sym, ap, subst, ◌∙◌, Bor}
use Rattle.std.specs.Str.Pattern.{FindsTextPrefix, StripsPrefix}
use Rattle.std.specs.Str.{IsCharBoundary}
use Rattle.std.proofs.lemmas.Str.Pattern.{starts_text}
use Rattle.cluster_filters.specs.Forms.{behind}

pub behind-strip_prefix : (prefix text : List ℕ) (rest : Option (Bor (List ℕ))) →
    MatchOption rest (FindsTextPrefix prefix text None) (λ x. StripsPrefix (FindsTextPrefix prefix) text x.now) →
    option_map (λ x. x.now) rest ≡ behind prefix text
behind-strip_prefix prefix text None h = rw (← starts_text false prefix text h)
behind-strip_prefix prefix text (Some x) h =
    let whole : IsCharBoundary text h.0 = subst (IsCharBoundary text) (sym h.1.0) h.1.2 in
    rw (← starts_text true prefix text (h.0, h.1, whole)) (ap Some (h.2 ∙ ap (λ n. drop n text) h.1.0))
