pub mod Request
pub mod Response
pub mod DeliverableRequest
pub mod DeliverableResponse
