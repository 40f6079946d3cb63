-- lines that are spelled as records are written are objects of their texts
use Rattle.std.proofs.Common.{◌≡◌, ℕ, true, List, [], ◌++◌, Option, Some, None, Result, Ok, Err, refl, sym, ap, ◌∙◌, append_assoc, codes, IsUtf8, MatchOption}
use Rattle.text_records.proofs.Common.{IfOk, list_all, AllocError, IsUtf8-append, IsUtf8-are_ascii, Data, WorldKind, Version, Line, Reported, Event}
use Rattle.serde_json.specs.Read.{read}
use Rattle.text_records.specs.Json.{is_plain, AreTexts, HasViewText, text_count}
use Rattle.text_records.specs.RecordLine.{SaysByTexts, SaysLine}
use Rattle.text_records.specs.Lines.{line}
use Rattle.text_records.specs.PlainLine.{SpellsLine, SpellsEvent, ending, IsPlainView, SpellsReported, SpellsReply}
use Rattle.text_records.proofs.written.Texts.{line_data, line_text, read_line_text, plain_utf8}

abbrev pub front : List ℕ
front = codes "{\"command\":\""

abbrev pub to_reply : List ℕ
to_reply = codes "\",\"reply\":\""

abbrev pub to_view : List ℕ
to_view = codes "\",\"view\":\""

abbrev pub close : List ℕ
close = codes "\"}"

-- a plain text between two others
between : (a x z : List ℕ) → list_all is_plain x ≡ true → IsUtf8 a → IsUtf8 z → IsUtf8 (a ++ (x ++ z))
between a x z h first last = IsUtf8-append a (x ++ z) first (IsUtf8-append x z (plain_utf8 x h) last)

close_utf8 : IsUtf8 close
close_utf8 = IsUtf8-are_ascii close refl

ending_utf8 : (shown : Option (List ℕ)) → IsPlainView shown → IsUtf8 (ending shown)
ending_utf8 None h = close_utf8
ending_utf8 (Some v) h = between to_view v close h (IsUtf8-are_ascii to_view refl) close_utf8

grouped : (q a c b r z : List ℕ) → a ++ (c ++ ((q ++ b) ++ (r ++ (q ++ z)))) ≡ (((((a ++ c) ++ (q ++ b)) ++ r) ++ q) ++ []) ++ z
grouped q a c b r z = simp append_assoc

grouped_with : (q a c b r w v z : List ℕ) → a ++ (c ++ ((q ++ b) ++ (r ++ ((q ++ w) ++ (v ++ (q ++ z)))))) ≡ (((((a ++ c) ++ (q ++ b)) ++ r) ++ q) ++ ((w ++ v) ++ q)) ++ z
grouped_with q a c b r w v z = simp append_assoc

spelled : (c r : List ℕ) (shown : Option (List ℕ)) → front ++ (c ++ (to_reply ++ (r ++ ending shown))) ≡ line_text c r shown
spelled c r None = grouped (codes "\"") front c (codes ",\"reply\":\"") r (codes "}")
spelled c r (Some v) = grouped_with (codes "\"") front c (codes ",\"reply\":\"") r (codes ",\"view\":\"") v (codes "}")

-- the object of a line has its texts
pub texts_are : (c r : List ℕ) (shown : Option (List ℕ)) → AreTexts (line_data c r shown) c r shown
texts_are c r None = record { keys = refl; command_is = refl; reply_is = refl; view_is = tt }
texts_are c r (Some v) = record { keys = refl; command_is = refl; reply_is = refl; view_is = refl }

-- a line that begins and ends so says its event and what it ends with tells
module _ (kind : WorldKind) (version : Version) (bytes : List ℕ) (e : Event) (text : List ℕ) (t : Reported) (a : SpellsEvent kind bytes e text) where
  pub line_spelled : SpellsReported version text t → SpellsLine kind version bytes (line e t)
  line_spelled b =
      let c = a.asked in
      let r = b.replied in
      let shown = b.shown in
      let whole : bytes ≡ front ++ (c ++ (to_reply ++ (r ++ ending shown))) = a.written ∙ ap (λ (l : List ℕ). front ++ (c ++ (to_reply ++ l))) b.end.written in
      record {
        value = line_data c r shown;
        json = record {
          utf8 = rw whole (between front c (to_reply ++ (r ++ ending shown)) a.plain (IsUtf8-are_ascii front refl) (between to_reply r (ending shown) b.end.plain (IsUtf8-are_ascii to_reply refl) (ending_utf8 shown b.end.plain_view)));
          reads = ap read (whole ∙ spelled c r shown) ∙ read_line_text c r shown a.plain b.end.plain b.end.plain_view;
        };
        says = record { asked = c; replied = r; shown = shown; texts = texts_are c r shown; event_is = a.means; reported_is = b.tells };
      }

  pub line_replied : SpellsReply text t → SpellsLine kind version bytes (line e t)
  line_replied b = line_spelled (record { replied = b.replied; shown = None; end = b.end; tells = b.tells version })

pub some_text : (a b : List ℕ) → Some a ≡ Some b → a ≡ b
some_text a b e = cc

-- a view is written or not, and is one text
pub one_view : (d : Data) (a b : Option (List ℕ)) → Some (text_count a) ≡ Some (text_count b) → HasViewText d a → HasViewText d b → a ≡ b
one_view d None None e x y = refl
one_view d None (Some t) e x y = absurd (cc)
one_view d (Some t) None e x y = absurd (cc)
one_view d (Some t) (Some u) e x y = sym x ∙ y

module _ (kind : WorldKind) (version : Version) (d : Data) (c r : List ℕ) (v : Option (List ℕ)) (texts : AreTexts d c r v) where
  by_texts : (l : Line) → SaysLine kind version d l → SaysByTexts kind version c r v l
  by_texts l s =
      let asked : s.asked ≡ c = some_text _ _ (sym s.texts.command_is ∙ texts.command_is) in
      let replied : s.replied ≡ r = some_text _ _ (sym s.texts.reply_is ∙ texts.reply_is) in
      let shown : s.shown ≡ v = one_view d s.shown v (sym s.texts.keys ∙ texts.keys) s.texts.view_is texts.view_is in
      record { event_is = rw (← asked) s.event_is; reported_is = rw (← replied, ← shown) s.reported_is }

  -- a value says what its texts do
  pub value_said : (x : Result (Option Line) AllocError) → IfOk x (λ o. MatchOption o ((l : Line) → SaysByTexts kind version c r v l → ⊥) (λ l. SaysByTexts kind version c r v l)) →
      IfOk x (λ o. MatchOption o ((l : Line) → SaysLine kind version d l → ⊥) (λ l. SaysLine kind version d l))
  value_said (Ok None) h = λ l s. h l (by_texts l s)
  value_said (Ok (Some l)) h = record { asked = c; replied = r; shown = v; texts = texts; event_is = h.event_is; reported_is = h.reported_is }
  value_said (Err e) h = tt
