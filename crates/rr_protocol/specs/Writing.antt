-- The effect of writes on the content of a message, and on its handle.
use Rattle.std.specs.Prelude.{ℕ, Bool, ◌==◌, List, [], ◌∷◌, ◌++◌, length, replicate, slice_set}
use Rattle.rr_protocol.specs.Messages.{Content, Handle, RequestMutUninit, RequestMut, ResponseMutUninit, ResponseMut}

module _ {T H : Type 0} where
  -- a body is complete when it has as many elements as were loaned
  abbrev pub is_complete : Content T H → Bool
  is_complete c = length c.elements == c.asked_len

  -- after one more element
  abbrev pub with_element : T → Content T H → Content T H
  with_element element c = record c { elements = c.elements ++ element ∷ [] }

  -- after the element at an index was replaced
  abbrev pub with_element_at : ℕ → T → Content T H → Content T H
  with_element_at i element c = record c { elements = slice_set c.elements i element }

  -- after all elements were replaced
  abbrev pub with_elements : List T → Content T H → Content T H
  with_elements elements c = record c { elements = elements }

  -- after the body was filled with this element, up to the loaned length
  abbrev pub filled : T → Content T H → Content T H
  filled element c = with_elements (replicate c.asked_len element) c

  -- after the user header was replaced
  abbrev pub with_user_header : H → Content T H → Content T H
  with_user_header header c = record c { user_header = header }

module _ {Q QH P PH : Type 0} where
  -- a message that was not sent, after its content was replaced; other handles stay
  abbrev pub with_request_content : (Content Q QH → Content Q QH) → Handle Q QH P PH → Handle Q QH P PH
  with_request_content change (RequestMutUninit m) = RequestMutUninit (record m { content = change m.content })
  with_request_content change (RequestMut m) = RequestMut (record m { content = change m.content })
  with_request_content change handle = handle

  -- the same for responses
  abbrev pub with_response_content : (Content P PH → Content P PH) → Handle Q QH P PH → Handle Q QH P PH
  with_response_content change (ResponseMutUninit m) = ResponseMutUninit (record m { content = change m.content })
  with_response_content change (ResponseMut m) = ResponseMut (record m { content = change m.content })
  with_response_content change handle = handle

  -- an uninitialised message, made ready to send
  abbrev pub after_init : Handle Q QH P PH → Handle Q QH P PH
  after_init (RequestMutUninit m) = RequestMut m
  after_init (ResponseMutUninit m) = ResponseMut m
  after_init handle = handle
