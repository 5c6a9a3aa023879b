use Rattle.std.proofs.Common.{◌∙◌, ◌++◌, ap, ap₂}
use Rattle.runner.specs.Pages.{json_begins, json_ends}
use Rattle.runner.specs.declared.frame.TheConstants.{BACK, MIDDLE, STYLE}
use Rattle.runner.proofs.paging.framed.Goals as goal

pub returns : goal.returns
returns c =
    let behind_name = c.in_ok-push_str.ensures.bytes ∙ ap₂ ◌++◌ c.in_ok-text.ensures.ok (c.as_str.ensures.value ∙ c.in_ok-name.ensures) in
    let behind_style = c.in_ok-push_str-2.ensures.bytes ∙ ap (λ t. t ++ STYLE.now) behind_name in
    let behind_picture = c.in_ok-push_str-3.ensures.bytes ∙ ap (λ t. t ++ c.args.picture.now) behind_style in
    let behind_middle = c.in_ok-push_str-4.ensures.bytes ∙ ap (λ t. t ++ MIDDLE.now) behind_picture in
    let json_opened = c.in_ok-push_str-5.ensures.bytes ∙ ap (λ t. t ++ json_begins) behind_middle in
    let behind_json = c.in_ok-push_str-6.ensures.bytes ∙ ap₂ ◌++◌ json_opened (c.as_str-2.ensures.value ∙ c.in_ok-json.ensures) in
    let json_closed = c.in_ok-push_str-7.ensures.bytes ∙ ap (λ t. t ++ json_ends) behind_json in
    c.in_ok-push_str-8.ensures.bytes ∙ ap (λ t. t ++ BACK.now) json_closed
