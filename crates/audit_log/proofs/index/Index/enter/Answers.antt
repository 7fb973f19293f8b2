use Rattle.std.proofs.Common.{◌+◌, length, set, inl, inr, sym, ◌∙◌, ap, subst, arith, vec_len}
use Rattle.audit_log.proofs.Prelude.{IfSome_then, IsLinked, bucket_of, eqb-true}
use Rattle.audit_log.proofs.Indexing.{index-blind, index-grown}
use Rattle.audit_log.proofs.index.Index.enter.Goals as goal

pub returns-then-is_empty : goal.returns-then-is_empty
returns-then-is_empty c =
    let none = eqb-true (vec_len c.args.self.now.heads) 0 (sym c.is_empty.ensures ∙ c.if-is_empty.true) in
    index-blind c.args.recoveries.now c.args.next.now c.args.self.now c.requires.index (omega (arith, none, c.args.self.now.heads.ok.0))

pub returns-then-is_done : goal.returns-then-is_done
returns-then-is_done c =
    let link = c.link_to-link.result in
    index-grown c.args.recoveries.now c.args.next.now c.args.self.now c.requires.index c.push.new.self link
    (c.link_to-link.ensures.done, IfSome_then link.clear c.link_to-link.ensures.clear (λ from all now late k d low below. all now late k d below))
    c.push.ensures.links (inl (sym c.is_done.ensures ∙ c.if-is_done.true, ap (λ hs. hs.items) c.push.ensures.heads))

pub returns : goal.returns
returns c =
    let xs = c.args.recoveries.now in
    let link = c.link_to-link.result in
    index-grown xs c.args.next.now c.args.self.now c.requires.index c.set_head.new.self link
    (c.link_to-link.ensures.done, IfSome_then link.clear c.link_to-link.ensures.clear (λ from all now late k d low below. all now late k d below))
    (subst (λ ls. IsLinked c.args.self.now.links.items ls.items (length xs) link) (sym c.set_head.ensures.links) c.push.ensures.links)
    (inr (c.set_head.ensures.heads ∙ (λ i. set ((c.push.ensures.heads i).items) ((c.bucket.ensures ∙ ap bucket_of c.as_str.ensures) i) (length xs + 1))))
