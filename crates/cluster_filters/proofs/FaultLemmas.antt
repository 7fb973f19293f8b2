-- The fault of one form is that of the list, if the forms before it have their patterns.
use Rattle.std.proofs.Common.{◌≡◌, ℕ, ◌<◌, Bool, false, not, List, length, take, get_or, Some, None, IfSome, String, string_bytes, sym, ap, ◌∙◌}
use Rattle.std.specs.List.{position}
use Rattle.cluster_filters.specs.Faults.{bad_place}
use Rattle.cluster_filters.specs.Forms.{Form, form_of, texts_of, forms_of, has_pattern, first_bad}
use Rattle.cluster_filters.specs.declared.fault.FilterFault.{FilterFault}
use Rattle.cluster_filters.specs.declared.fault.FilterFault.TheVariants.{BadPattern, Memory}
use Rattle.cluster_filters.proofs.ListLemmas.{map-map, position-map-at}

pub first_bad-at : {A : Type 0} (texts : List (String A)) (i : ℕ) (text : String A) (fault : FilterFault) → i < length texts →
    text ≡ get_or texts i text → first_bad (forms_of (texts_of (take i texts))) ≡ None →
    IfSome (bad_place fault) (λ place. (place ≡ i) × (has_pattern (form_of (string_bytes text)) ≡ false)) →
    IfSome (bad_place fault) (λ place. first_bad (forms_of (texts_of texts)) ≡ Some place)
first_bad-at texts i text (BadPattern place) lt is none bad =
    let fails : Form → Bool = λ form. not (has_pattern form) in
    let before = ap (position fails) (sym (map-map form_of string_bytes (take i texts))) ∙ none in
    rw bad.0
    (ap (position fails) (map-map form_of string_bytes texts)
    ∙ position-map-at fails (λ t. form_of (string_bytes t)) texts i text lt is before (ap not bad.1))
first_bad-at texts i text Memory lt is none bad = tt
