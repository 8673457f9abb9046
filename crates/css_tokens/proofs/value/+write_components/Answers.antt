use Rattle.std.proofs.Common.{◌≡◌, ◌<◌, ◌++◌, ◌∷◌, [], List, ℕ, length, map, subst, rules, ap, ◌∙◌}
use Rattle.css_tokens.specs.declared.kind.Kind.TheVariants.{Close}
use Rattle.css_tokens.specs.declared.component.Component as component
use Rattle.css_tokens.specs.declared.component.Block.{Block}
use Rattle.css_tokens.specs.Piece.{Word, word_of}
use Rattle.css_tokens.specs.Trees.{pieces_of, words_all, closing}
use Rattle.css_tokens.specs.Private.Pendings.{Writes, block_words}
use Rattle.css_tokens.proofs.WritingLemmas.{writes_then, writes_stopped, writes_take, writes_all_stopped, words_of-Block}
use Rattle.css_tokens.proofs.value.+write_components.Goals as goal

pub write_block-returns-in_err-inside : goal.write_block-returns-in_err-inside
write_block-returns-in_err-inside t c =
    let b : Block = c.args.block.now in
    let first : Writes c.args.pending (word_of b.opening ∷ []) c.args.out.now c.write_word.new.out c.write_word.result = subst (λ (b : Block). Writes c.args.pending (word_of b.opening ∷ []) c.args.out.now c.write_word.new.out c.write_word.result) c.block.view_is c.write_word.ensures in
    writes_stopped c.args.pending (word_of b.opening ∷ []) (words_all b.items ++ word_of (closing b.opening b.close) ∷ []) c.args.out.now c.write_word.new.out c.write_word.result c.from_residual.result (search rules) (search rules) first

pub write_block-returns-in_err-close : goal.write_block-returns-in_err-close
write_block-returns-in_err-close t c =
    let b : Block = c.args.block.now in
    let inside = c.in_ok-inside.inside in
    let mid : List ℕ = c.write_word.new.out in
    let new : List ℕ = c.write_components.new.out in
    let first : Writes c.args.pending (word_of b.opening ∷ []) c.args.out.now mid c.write_word.result = subst (λ (b : Block). Writes c.args.pending (word_of b.opening ∷ []) c.args.out.now mid c.write_word.result) c.block.view_is c.write_word.ensures in
    let items : Writes inside (words_all b.items) mid new c.write_components.result = subst (λ (b : Block). Writes inside (words_all b.items) mid new c.write_components.result) c.block.view_is (subst (λ (cs : List component.Component). Writes inside (words_all cs) mid new c.write_components.result) c.as_slice.ensures c.write_components.ensures) in
    writes_then c.args.pending inside (word_of b.opening ∷ []) (words_all b.items ++ word_of (closing b.opening b.close) ∷ []) c.args.out.now mid new c.write_word.result c.from_residual-in_err-close.result (search rules) first
    (writes_stopped inside (words_all b.items) (word_of (closing b.opening b.close) ∷ []) mid new c.write_components.result c.from_residual-in_err-close.result (search rules) (search rules) items)

pub write_block-returns : goal.write_block-returns
write_block-returns t c =
    let b : Block = c.args.block.now in
    let inside = c.in_ok-inside.inside in
    let after = c.in_ok-close.close in
    let mid : List ℕ = c.write_word.new.out in
    let late : List ℕ = c.write_components.new.out in
    let new : List ℕ = c.write_word-2.new.out in
    let first : Writes c.args.pending (word_of b.opening ∷ []) c.args.out.now mid c.write_word.result = subst (λ (b : Block). Writes c.args.pending (word_of b.opening ∷ []) c.args.out.now mid c.write_word.result) c.block.view_is c.write_word.ensures in
    let items : Writes inside (words_all b.items) mid late c.write_components.result = subst (λ (b : Block). Writes inside (words_all b.items) mid late c.write_components.result) c.block.view_is (subst (λ (cs : List component.Component). Writes inside (words_all cs) mid late c.write_components.result) c.as_slice.ensures c.write_components.ensures) in
    let last : Writes after (word_of (closing b.opening b.close) ∷ []) late new c.write_word-2.result = subst (λ (b : Block). Writes after (word_of (closing b.opening b.close) ∷ []) late new c.write_word-2.result) c.block.view_is (subst (λ (text : List ℕ). Writes after (record { kind = Close; text = text } ∷ []) late new c.write_word-2.result) c.closing_text.ensures c.write_word-2.ensures) in
    writes_then c.args.pending inside (word_of b.opening ∷ []) (words_all b.items ++ word_of (closing b.opening b.close) ∷ []) c.args.out.now mid new c.write_word.result c.write_word-2.result (search rules) first
    (writes_then inside after (words_all b.items) (word_of (closing b.opening b.close) ∷ []) mid late new c.write_components.result c.write_word-2.result (search rules) items last)

pub write_component-returns-in-Block : goal.write_component-returns-in-Block
write_component-returns-in-Block t c =
    let b : component.Component = c.args.item.now in
    let whole : block_words c.in-Block.block ≡ map word_of (pieces_of b) = search (rules, words_of-Block) in
    subst (λ (ws : List Word). Writes c.args.pending ws c.args.out.now c.write_block.new.out c.write_block.result) (ap block_words c.get.ensures ∙ whole) c.write_block.ensures

pub write_components-returns-in_err-waiting : goal.write_components-returns-in_err-waiting
write_components-returns-in_err-waiting t c =
    let cs : List component.Component = c.args.items.now in
    let i = c.loop-item.item-index in
    let within : i < length cs = search rules in
    writes_all_stopped cs i c.item-item.result within c.item-item.is c.args.pending c.loop-item.waiting c.args.out.now c.loop-item.out c.write_component.new.out c.write_component.result c.loop-item.invariant c.write_component.ensures c.from_residual.result (search rules) (search rules)

pub write_components-loop-item-preserved : goal.write_components-loop-item-preserved
write_components-loop-item-preserved t c =
    let cs : List component.Component = c.args.items.now in
    let i = c.loop-item.item-index in
    let within : i < length cs = search rules in
    writes_take cs i c.item-item.result within c.item-item.is c.args.pending c.loop-item.waiting c.args.out.now c.loop-item.out c.write_component.new.out c.write_component.result c.loop-item.invariant c.write_component.ensures c.in_ok-waiting.waiting (search rules)
