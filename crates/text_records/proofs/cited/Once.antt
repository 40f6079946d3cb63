-- bytes say one thing
use Rattle.std.proofs.Common.{◌≡◌, ℕ, List, Some, Ok, sym, ap, ◌∙◌, subst}
use Rattle.text_records.proofs.Common.{named_apart, WorldKind, Data, meaning, Header, Version, Line, SaysSizes, SaysLine, IsEventLine, IsHeaderLine, reported_by}
use Rattle.model_asked.specs.declared.command.Command.TheVariants as command
use Rattle.text_records.specs.Records.{AreSame}
use Rattle.text_records.proofs.written.PlainLines.{some_text, one_view}
use Rattle.text_records.proofs.Values.{one_value}

some_number : (a b : ℕ) → Some a ≡ Some b → a ≡ b
some_number a b e = cc

some_version : (a b : Version) → Some a ≡ Some b → a ≡ b
some_version a b e = cc

module _ (kind : WorldKind) (version : Version) where
  said_once : (d : Data) (l k : Line) → SaysLine kind version d l → SaysLine kind version d k → l ≡ k
  said_once d l k x y =
      let asked : x.asked ≡ y.asked = some_text _ _ (sym x.texts.command_is ∙ y.texts.command_is) in
      let replied : x.replied ≡ y.replied = some_text _ _ (sym x.texts.reply_is ∙ y.texts.reply_is) in
      let events : Ok (command.Event l.event) ≡ Ok (command.Event k.event) = sym x.event_is ∙ ap (meaning kind) asked ∙ y.event_is in
      let shown : x.shown ≡ y.shown = one_view d x.shown y.shown (sym x.texts.keys ∙ y.texts.keys) x.texts.view_is y.texts.view_is in
      let tolds : Some l.reported ≡ Some k.reported = sym x.reported_is ∙ (λ i. reported_by version (replied i) (shown i)) ∙ y.reported_is in
      let event : l.event ≡ k.event = cc in
      let reported : l.reported ≡ k.reported = cc in
      λ i. record { event = event i; reported = reported i }

  -- bytes are one line alone
  pub line_once : (row : List ℕ) (l k : Line) → IsEventLine kind version row l → IsEventLine kind version row k → l ≡ k
  line_once row l k x y = said_once x.value l k x.says (subst (λ (d : Data). SaysLine kind version d k) (one_value row y.value x.value y.json x.json) y.says)

pub header_once : (head : List ℕ) (g h : Header) → IsHeaderLine head g → IsHeaderLine head h → AreSame g h
header_once head g h x y =
    let same = one_value head y.value x.value y.json x.json in
    let a = x.says.sizes in
    let b : SaysSizes x.value h.version h.config.world h.config.m h.config.k h.config.limit = subst (λ (v : Data). SaysSizes v h.version h.config.world h.config.m h.config.k h.config.limit) same y.says.sizes in
    record {
      version = some_version _ _ (sym a.format.version ∙ b.format.version);
      world = named_apart _ _ (some_text _ _ (sym a.world_is ∙ b.world_is));
      m = some_number _ _ (sym a.m_is ∙ b.m_is);
      k = some_number _ _ (sym a.k_is ∙ b.k_is);
      limit = some_number _ _ (sym a.limit_is ∙ b.limit_is);
    }
