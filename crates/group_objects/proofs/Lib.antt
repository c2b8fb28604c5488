mod Forms
mod Apart
mod Reading
mod Asking
