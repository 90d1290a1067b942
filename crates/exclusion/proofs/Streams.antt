-- Streams: the messages on one channel, oldest first, as a stream of stamps and of changes to the receiver's entry;
-- and the invariant `Link` of an ordered pair of benches, kept when clocks go up, when a message is sent and when one is taken.
use mathlib.Core.Path.{◌≡◌, refl, sym, ap, ◌∙◌}
use mathlib.Core.Logic.{◌≢◌, ◌⊎◌, inl, inr}
use mathlib.Core.Bool.{cond}
use mathlib.Core.List.{List, [], ◌∷◌, ◌++◌}
use Prim.Native.Nat.{ℕ, ◌+◌, ◌≤◌, ◌<◌, max}
use native.Mathlib.Omega.{arith}
use Rattle.lamport.specs.declared.Kind.{Kind}
use Rattle.lamport.specs.declared.Kind.TheVariants.{Request, Ack, Release}
use Rattle.lamport.specs.declared.Message.{Message}
use Rattle.lamport.specs.Order.{entry_after}
use Rattle.lamport.specs.Refusals.{is_request}

-- the messages of a channel, delivered in order to an entry
abbrev pub deliver : List Message → ℕ → ℕ
deliver [] e = e
deliver (m ∷ ms) e = deliver ms (entry_after m.kind m.stamp e)

-- h, and then the stamps, strictly rise
abbrev pub Rises : ℕ → List Message → Type 0
Rises h [] = Unit {0}
Rises h (m ∷ ms) = (h < m.stamp) × Rises m.stamp ms

-- the last stamp, or h where there is none
abbrev pub latest : ℕ → List Message → ℕ
latest h [] = h
latest h (m ∷ ms) = latest m.stamp ms

-- how many of the messages are requests
abbrev pub requests_in : List Message → ℕ
requests_in [] = 0
requests_in (m ∷ ms) = cond (is_request m.kind) 1 0 + requests_in ms

pub requests-append : (xs ys : List Message) → requests_in (xs ++ ys) ≡ requests_in xs + requests_in ys
requests-append [] ys = omega arith
requests-append (x ∷ xs) ys = omega (arith, requests-append xs ys)

pub deliver-append : (xs ys : List Message) (e : ℕ) → deliver (xs ++ ys) e ≡ deliver ys (deliver xs e)
deliver-append [] ys e = refl
deliver-append (x ∷ xs) ys e = deliver-append xs ys (entry_after x.kind x.stamp e)

pub latest-append : (xs ys : List Message) (h : ℕ) → latest h (xs ++ ys) ≡ latest (latest h xs) ys
latest-append [] ys h = refl
latest-append (x ∷ xs) ys h = latest-append xs ys x.stamp

pub rises-append : (xs ys : List Message) (h : ℕ) → Rises h xs → Rises (latest h xs) ys → Rises h (xs ++ ys)
rises-append [] ys h r t = t
rises-append (x ∷ xs) ys h r t = (r.0, rises-append xs ys x.stamp r.1 t)

pub rises-from : (xs : List Message) (h k : ℕ) → h ≤ k → Rises k xs → Rises h xs
rises-from [] h k le r = tt
rises-from (x ∷ xs) h k le r = (omega (arith, r.0), r.1)

pub rises-le : (xs : List Message) (h : ℕ) → Rises h xs → h ≤ latest h xs
rises-le [] h r = omega arith
rises-le (x ∷ xs) h r = omega (arith, r.0, rises-le xs x.stamp r.1)

pub latest-mono : (xs : List Message) (h k : ℕ) → h ≤ k → latest h xs ≤ latest k xs
latest-mono [] h k le = le
latest-mono (x ∷ xs) h k le = omega arith

-- what is delivered is the entry as it was, or none, or a request later than all that was heard
pub old-or_later : (xs : List Message) (h e : ℕ) → Rises h xs → (deliver xs e ≡ e) ⊎ ((deliver xs e ≡ 0) ⊎ (h < deliver xs e))
old-or_later [] h e r = inl refl
old-or_later (x ∷ xs) h e r = go x.kind refl (old-or_later xs x.stamp (entry_after x.kind x.stamp e) r.1)
  where
    d : ℕ
    d = deliver xs (entry_after x.kind x.stamp e)

    go : (k : Kind) → x.kind ≡ k → (d ≡ entry_after x.kind x.stamp e) ⊎ ((d ≡ 0) ⊎ (x.stamp < d)) → (d ≡ e) ⊎ ((d ≡ 0) ⊎ (h < d))
    go Request q (inl i) = inr (inr (omega (arith, r.0, i ∙ ap (λ (j : Kind). entry_after j x.stamp e) q)))
    go Ack q (inl i) = inl (i ∙ ap (λ (j : Kind). entry_after j x.stamp e) q)
    go Release q (inl i) = inr (inl (i ∙ ap (λ (j : Kind). entry_after j x.stamp e) q))
    go Request q (inr (inl z)) = inr (inl z)
    go Ack q (inr (inl z)) = inr (inl z)
    go Release q (inr (inl z)) = inr (inl z)
    go Request q (inr (inr l)) = inr (inr (omega (arith, r.0, l)))
    go Ack q (inr (inr l)) = inr (inr (omega (arith, r.0, l)))
    go Release q (inr (inr l)) = inr (inr (omega (arith, r.0, l)))

-- The invariant of the channel from a to b: h is what b has heard from a, e is b's entry for a, ms are the messages on the channel,
-- o is a's own entry, c and d are the clocks of a and b, l is the last stamp that b has sent to a (0 for none).
pub record Link (h e : ℕ) (ms : List Message) (o c d l : ℕ) : Type 0 where
  -- what b has heard, and then the stamps on the channel, strictly rise
  pub rises : Rises h ms
  -- the last of them is at most a's clock
  pub sent : latest h ms ≤ c
  -- b's clock has passed what b has heard
  pub known : h ≤ d
  -- once all is delivered, b's entry for a is a's own
  pub view : deliver ms e ≡ o
  -- b has heard the stamp of its entry for a
  pub seen : e ≤ h
  -- where b has a's request in its queue, b has sent a a later stamp since
  pub acked : o ≢ 0 → e ≡ o → o < l

-- clocks go up, and b sends more
pub grow : {h e : ℕ} {ms : List Message} {o c d l : ℕ} (h' e' : ℕ) (ms' : List Message) (o' c' d' l' : ℕ) → Link h e ms o c d l
    → h' ≡ h → e' ≡ e → ms' ≡ ms → o' ≡ o → c ≤ c' → d ≤ d' → l ≤ l' → Link h' e' ms' o' c' d' l'
grow {h} {e} {ms} {o} {c} {d} {l} h' e' ms' o' c' d' l' k p q r s cc' dd' ll' =
    rw (p, q, r, s) record {
      rises = k.rises;
      sent = omega (arith, k.sent);
      known = omega (arith, k.known);
      view = k.view;
      seen = k.seen;
      acked = λ nz eq. omega (arith, k.acked nz eq);
    }

-- a sends out
pub send : {h e : ℕ} {ms : List Message} {o c d l : ℕ} (out : List Message) (h' e' : ℕ) (ms' : List Message) (o' c' d' l' : ℕ) → Link h e ms o c d l
    → h' ≡ h → e' ≡ e → ms' ≡ ms ++ out → o' ≡ deliver out o → Rises c out → latest c out ≤ c' → d ≤ d' → l ≤ l' → Link h' e' ms' o' c' d' l'
send {h} {e} {ms} {o} {c} {d} {l} out h' e' ms' o' c' d' l' k p q r s ro lc dd' ll' =
    rw (p, q, r) record {
      rises = rises-append ms out h k.rises (rises-from out (latest h ms) c k.sent ro);
      sent = omega (arith, latest-append ms out h, latest-mono out (latest h ms) c k.sent);
      known = omega (arith, k.known);
      view = deliver-append ms out e ∙ ap (deliver out) k.view ∙ sym s;
      seen = k.seen;
      acked = λ nz eq. go nz eq (old-or_later out c o ro);
    }
  where
    go : o' ≢ 0 → e ≡ o' → (deliver out o ≡ o) ⊎ ((deliver out o ≡ 0) ⊎ (c < deliver out o)) → o' < l'
    go nz eq (inl i) = omega (arith, s, k.acked (λ z. nz (s ∙ i ∙ z)) (eq ∙ s ∙ i), i)
    go nz eq (inr (inl z)) = absurd (nz (s ∙ z))
    go nz eq (inr (inr lt)) = omega (arith, s, k.seen, rises-le ms h k.rises, k.sent)

-- b takes the oldest message
pub take : {h e : ℕ} {ms : List Message} {o c d l : ℕ} (m : Message) (h' e' : ℕ) (ms' : List Message) (o' c' d' l' : ℕ) → Link h e ms o c d l
    → ms ≡ m ∷ ms' → h' ≡ max h m.stamp → e' ≡ entry_after m.kind m.stamp e → o' ≡ o → c ≤ c' → m.stamp ≤ d' → l ≤ l'
    → (m.kind ≡ Request → m.stamp < l') → Link h' e' ms' o' c' d' l'
take {h} {e} {ms} {o} {c} {d} {l} m h' e' ms' o' c' d' l' k r p q s cc' dd' ll' req =
    rw (ht, q, s) record {
      rises = rs.1;
      sent = omega (arith, simp r at k.sent);
      known = omega arith;
      view = simp r at k.view;
      seen = sees m.kind;
      acked = λ nz eq. go nz m.kind refl eq;
    }
  where
    rs : Rises h (m ∷ ms')
    rs = rw r at k.rises

    ht : h' ≡ m.stamp
    ht = omega (arith, p, rs.0)

    sees : (j : Kind) → entry_after j m.stamp e ≤ m.stamp
    sees Request = omega arith
    sees Ack = omega (arith, rs.0, k.seen)
    sees Release = omega arith

    go : o ≢ 0 → (j : Kind) → m.kind ≡ j → entry_after m.kind m.stamp e ≡ o → o < l'
    go nz Request j eq = omega (arith, req j, ap (λ (i : Kind). entry_after i m.stamp e) (sym j) ∙ eq)
    go nz Ack j eq = omega (arith, k.acked nz (ap (λ (i : Kind). entry_after i m.stamp e) (sym j) ∙ eq))
    go nz Release j eq = absurd (nz (sym (ap (λ (i : Kind). entry_after i m.stamp e) (sym j) ∙ eq)))
