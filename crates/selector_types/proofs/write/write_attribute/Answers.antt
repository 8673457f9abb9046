use Rattle.std.proofs.Common.{◌∷◌, [], ◌++◌, refl}
use Rattle.std.specs.Prelude.{codes}
use Rattle.css_tokens.specs.NameText.{name_text}
use Rattle.selector_types.specs.Spelling.{text_of, attribute_spelling, test_spelling}
use Rattle.selector_types.proofs.SpellingTexts.{text-attribute}
use Rattle.selector_types.proofs.WritingLemmas.{start, more, last, within, within_last, on_err, on_err_map, on_ok_map}
use Rattle.selector_types.proofs.write.write_attribute.Goals as goal

pub returns-in_err-write_marked-clause-err : goal.returns-in_err-write_marked-clause-err
returns-in_err-write_marked-clause-err c =
    let a = c.args.attribute.now in
    on_err c.from_residual.result (within (codes "[" ++ name_text a.name) (text_of (test_spelling a.test a.value) ++ codes "]") (start c.args.out.now (text_of (attribute_spelling a ∷ []))) (text-attribute a) c.in_err-write_marked.ensures.err)

pub returns-in_err-write_test-clause-err : goal.returns-in_err-write_test-clause-err
returns-in_err-write_test-clause-err c =
    let a = c.args.attribute.now in
    let test = text_of (test_spelling a.test a.value) in
    let named = more (codes "[" ++ name_text a.name) (test ++ codes "]") (start c.args.out.now (text_of (attribute_spelling a ∷ []))) (text-attribute a) c.in_ok-write_marked.ensures.ok in
    on_err c.from_residual-in_err-write_test.result (within test (codes "]") named refl c.in_err-write_test.ensures.err)

pub returns-clause-ok : goal.returns-clause-ok
returns-clause-ok c =
    let a = c.args.attribute.now in
    let test = text_of (test_spelling a.test a.value) in
    let named = more (codes "[" ++ name_text a.name) (test ++ codes "]") (start c.args.out.now (text_of (attribute_spelling a ∷ []))) (text-attribute a) c.in_ok-write_marked.ensures.ok in
    on_ok_map c.write_bytes.result (last (more test (codes "]") named refl c.in_ok-write_test.ensures.ok)) c.write_bytes.ensures.ok

pub returns-clause-err : goal.returns-clause-err
returns-clause-err c =
    let a = c.args.attribute.now in
    let test = text_of (test_spelling a.test a.value) in
    let named = more (codes "[" ++ name_text a.name) (test ++ codes "]") (start c.args.out.now (text_of (attribute_spelling a ∷ []))) (text-attribute a) c.in_ok-write_marked.ensures.ok in
    on_err_map c.write_bytes.result (within_last (more test (codes "]") named refl c.in_ok-write_test.ensures.ok)) c.write_bytes.ensures.err
